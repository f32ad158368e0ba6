-- What the sections of a tree answer, phase by phase.
use Rattle.std.proofs.Common.{◌≤◌, ◌^◌, sym, subst, [], ◌∷◌, length, arith}
use Rattle.std.specs.Prelude.{All, IfSome, Ok, Err}
use Rattle.std.proofs.lemmas.List.Elements.{All-weaker}
use Rattle.dsn_tree.specs.declared.tree.Tree.{Tree}
use Rattle.dsn_shapes.specs.declared.parts.Head.{Head}
use Rattle.dsn_shapes.specs.declared.parts.Place.{Place}
use Rattle.dsn_shapes.specs.declared.parts.ReadClass.{ReadClass}
use Rattle.dsn_shapes.specs.declared.parts.ReadWire.{ReadWire}
use Rattle.dsn_shapes.specs.declared.parts.Stack.{Stack}
use Rattle.dsn_shapes.specs.declared.parts.Structure.{Structure}
use Rattle.dsn_shapes.specs.declared.parts.Library.{Library}
use Rattle.dsn_shapes.specs.declared.parts.Placing.{Placing}
use Rattle.dsn_shapes.specs.declared.parts.Network.{Network}
use Rattle.dsn_shapes.specs.declared.refusal.ReadFault.{ReadFault}
use Rattle.dsn_shapes.specs.declared.refusal.ReadFault.TheVariants.{Refused, Memory}
use Rattle.dsn_shapes.specs.Within.{IsLibraryWithin}
use Rattle.dsn_structure.specs.Sound.{IsHeadSound, IsStructureSound}
use Rattle.dsn_library.specs.Sound.{IsLibrarySound, IsStackSound}
use Rattle.dsn_placement.specs.Sound.{HasFewImages, IsPlaceSound, IsPlacingSound}
use Rattle.dsn_network.specs.Sound.{HasFewPlaces, IsNetworkSound}
use Rattle.dsn_wiring.specs.Sound.{HasFewStacks, IsWireSound, IsWiringSound}
use Rattle.dsn_wiring.proofs.Sound.{copper_fit}
use Rattle.dsn_design.specs.declared.parts.Parts.{Parts}
use Rattle.dsn_design.specs.Fit.{ArePartsFit, IsPlaceWithin, IsStackFit, IsWireFit}
use Rattle.dsn_design.specs.Sound.{AreFewParts, ArePartsSound, weight}
use Rattle.dsn_design.proofs.Few.{class_vias_few, classes_few, images_few, places_few, stacks_few, structure_vias_few}
use Rattle.dsn_design.specs.Reading.{ArePartsOf, in_structure, in_library, in_placement, in_network, in_wiring}
use Rattle.dsn_design.specs.Reading.{ReadsHead, ReadsStructure, ReadsLibrary, ReadsPlacing, ReadsNetwork, ReadsWiring}
use Rattle.dsn_design.specs.Reading.{ReadsParts}

pub fail_structure : (pcb : Tree) (h : Head) (f : ReadFault) → ReadsHead pcb (Ok h) → ReadsStructure pcb h (Err f)
    → ReadsParts pcb (Err f)
fail_structure pcb h (Refused r) a b = in_structure h a b
fail_structure pcb h (Memory e) a b = tt

pub fail_library : (pcb : Tree) (h : Head) (st : Structure) (f : ReadFault) → ReadsHead pcb (Ok h)
    → ReadsStructure pcb h (Ok st) → ReadsLibrary pcb h st (Err f) → ReadsParts pcb (Err f)
fail_library pcb h st (Refused r) a b c = in_library h st a b c
fail_library pcb h st (Memory e) a b c = tt

pub fail_placement : (pcb : Tree) (h : Head) (st : Structure) (lib : Library) (f : ReadFault) → ReadsHead pcb (Ok h)
    → ReadsStructure pcb h (Ok st) → ReadsLibrary pcb h st (Ok lib) → ReadsPlacing pcb h st lib (Err f)
    → ReadsParts pcb (Err f)
fail_placement pcb h st lib (Refused r) a b c d = in_placement h st lib a b c d
fail_placement pcb h st lib (Memory e) a b c d = tt

pub fail_network : (pcb : Tree) (h : Head) (st : Structure) (lib : Library) (placing : Placing) (f : ReadFault)
    → ReadsHead pcb (Ok h) → ReadsStructure pcb h (Ok st) → ReadsLibrary pcb h st (Ok lib)
    → ReadsPlacing pcb h st lib (Ok placing) → ReadsNetwork pcb h lib placing (Err f) → ReadsParts pcb (Err f)
fail_network pcb h st lib placing (Refused r) a b c d e = in_network h st lib placing a b c d e
fail_network pcb h st lib placing (Memory x) a b c d e = tt

pub fail_wiring : (pcb : Tree) (h : Head) (st : Structure) (lib : Library) (placing : Placing) (net : Network)
    (f : ReadFault) → ReadsHead pcb (Ok h) → ReadsStructure pcb h (Ok st) → ReadsLibrary pcb h st (Ok lib)
    → ReadsPlacing pcb h st lib (Ok placing) → ReadsNetwork pcb h lib placing (Ok net)
    → ReadsWiring pcb h st lib placing net (Err f) → ReadsParts pcb (Err f)
fail_wiring pcb h st lib placing net (Refused r) a b c d e w = in_wiring h st lib placing net a b c d e w
fail_wiring pcb h st lib placing net (Memory x) a b c d e w = tt

-- ---- parts that are read are few and sound
few_parts : (pcb : Tree) (p : Parts) → weight (pcb ∷ []) ≤ 2 ^ 26 → ArePartsOf pcb p → AreFewParts p
few_parts pcb p h are =
    let nm = p.head.scale.nm in
    record {
      stacks = subst (λ (lib : Library). length lib.stacks ≤ 2 ^ 26) (sym are.library.1)
          (stacks_few nm p.structure.layers pcb (2 ^ 26) h);
      places = subst (λ (placing : Placing). length placing.places ≤ 2 ^ 26) (sym are.placing.1)
          (places_few nm p.structure p.library pcb (2 ^ 26) h);
      classes = subst (λ (network : Network). length network.classes ≤ 2 ^ 26) (sym are.network.1)
          (classes_few nm p.library p.placing pcb (2 ^ 26) h);
      structure_vias =
          subst (λ (st : Structure). length st.vias ≤ 2 ^ 26) (sym are.structure.1)
          (structure_vias_few nm pcb (2 ^ 26) h);
      class_vias =
          subst (λ (network : Network). All (λ (c : ReadClass). IfSome c.vias (λ vs. length vs ≤ 2 ^ 26))
          network.classes) (sym are.network.1) (class_vias_few nm p.library p.placing pcb (2 ^ 26) h);
    }

few_images : (pcb : Tree) (p : Parts) → weight (pcb ∷ []) ≤ 2 ^ 26 → ArePartsOf pcb p → length p.library.images ≤ 2 ^ 26
few_images pcb p h are =
    subst (λ (lib : Library). length lib.images ≤ 2 ^ 26) (sym are.library.1)
    (images_few p.head.scale.nm p.structure.layers pcb (2 ^ 26) h)

-- what each reader says of its section, where the earlier ones are few
pub record AreSound (p : Parts) : Type 0 where
  pub head : IsHeadSound p.head
  pub structure : IsStructureSound p.structure
  pub library : IsLibrarySound p.library
  pub within : IsLibraryWithin p.library
  pub placing : HasFewImages p.library → IsPlacingSound p.structure p.library p.placing
  pub network : HasFewPlaces p.placing → IsNetworkSound p.library p.placing p.network
  pub wiring : HasFewStacks p.library → IsWiringSound p.structure p.library p.network p.wiring

pub parts_sound : (pcb : Tree) (p : Parts) → weight (pcb ∷ []) ≤ 2 ^ 26 → ArePartsOf pcb p → AreSound p
    → ArePartsSound p
parts_sound pcb p h are s =
    let few = few_parts pcb p h are in
    record {
      head = s.head;
      structure = s.structure;
      library = s.library;
      within = s.within;
      placing = s.placing (record { images = omega (arith, few_images pcb p h are) });
      network = s.network (record { places = omega (arith, few.places) });
      wiring = s.wiring (record { few = omega (arith, few.stacks) });
      few = few;
    }

-- sound parts are fit to make a design of
pub sound_fit : (p : Parts) → ArePartsSound p → ArePartsFit p
sound_fit p s = record {
  few_layers = s.structure.layers.few;
  library = s.within;
  stacks = All-weaker IsStackSound IsStackFit (λ (k : Stack) h. record { shapes = h.shapes_fit }) p.library.stacks
      s.library.stacks;
  places = All-weaker (IsPlaceSound p.structure.flip_last p.library) IsPlaceWithin
      (λ (k : Place) h. record { at = h.at; angle = h.angle }) p.placing.places s.placing.places;
  wires = All-weaker (IsWireSound p.structure p.library p.network) IsWireFit
      (λ (w : ReadWire) h. record { metal = copper_fit p.structure p.library w.metal h.copper }) p.wiring.wires
      s.wiring.wires;
}
