-- The free wiring of sound sections is sound.
use Rattle.std.proofs.Common.{◌≡◌, ◌<◌, sym, subst, ℕ, false, List, Option, Some, None, get_or, length, arith}
use Rattle.std.specs.Prelude.{All, IfSome, IsSome, filter, unwrap_or}
use Rattle.std.proofs.lemmas.Bool.{not-true}
use Rattle.std.proofs.lemmas.List.Elements.{All-filter, All-map, All-weaker, filter_passes}
use Rattle.pcb_model.specs.declared.item.Metal.{Metal}
use Rattle.pcb_model.specs.declared.item.Metal.TheVariants.{Wire, Via, Pad, Ban}
use Rattle.pcb_model.specs.declared.design.Design.{Design}
use Rattle.pcb_model.specs.declared.design.Padstack.{Padstack}
use Rattle.pcb_model.specs.Bounds.{IsFit}
use Rattle.pcb_model.specs.Sound.{IsCopper, IsFreeSound}
use Rattle.dsn_shapes.specs.declared.parts.Library.{Library}
use Rattle.dsn_shapes.specs.declared.parts.ReadWire.{ReadWire}
use Rattle.dsn_shapes.specs.declared.parts.Structure.{Structure}
use Rattle.dsn_library.specs.Sound.{IsLibrarySound}
use Rattle.dsn_wiring.specs.Sound.{IsCopperSound, IsWireSound, IsWiringSound}
use Rattle.dsn_wiring.proofs.Sound.{copper_fit}
use Rattle.dsn_design.specs.declared.parts.Parts.{Parts}
use Rattle.dsn_design.specs.Items.{free_wire, free_wiring, is_free}
use Rattle.dsn_design.specs.Made.{ArePadstacksOf, design_from, design_with}
use Rattle.dsn_design.specs.Pins.{layer_count}
use Rattle.dsn_design.proofs.FixedSound.{IsFitOn, copper_in_range, copper_on, layers_are, nets_are}
use Rattle.dsn_design.proofs.Laid.{same_pieces}

is_copper : (st : Structure) (lib : Library) (m : Metal) → IsCopperSound st lib m → IsCopper m
is_copper st lib (Wire layer width chain) h = tt
is_copper st lib (Via stack at) h = tt
is_copper st lib (Pad pin) h = h
is_copper st lib (Ban wires vias) h = h

-- a net that is there, and is one of n
net_there : (o : Option ℕ) (n : ℕ) → IsSome o → IfSome o (λ k. k < n) → unwrap_or o 0 < n
net_there None n s h = absurd (cc)
net_there (Some k) n s h = h

wire_sound : (d : Design) (parts : Parts) → length d.layers ≡ layer_count parts
    → length d.nets ≡ length parts.network.nets → ArePadstacksOf parts d.padstacks → IsLibrarySound parts.library
    → (w : ReadWire) → w.fixed ≡ false → IsWireSound parts.structure parts.library parts.network w
    → IsFreeSound d (free_wire w)
wire_sound d parts e f own lib w free h =
    let net : unwrap_or w.net 0 < length parts.network.nets =
    net_there w.net (length parts.network.nets) (h.net_there free) h.net_in_range in
    record {
      copper = is_copper parts.structure parts.library w.metal h.copper;
      fits = copper_fit parts.structure parts.library w.metal h.copper;
      in_range = copper_in_range d parts w.metal e own lib.stacks h.copper;
      pieces_fit =
          subst (All IsFit) (sym (same_pieces d w.metal))
          (All-weaker (IsFitOn (layer_count parts)) IsFit (λ q k. k.fit) _
          (copper_on parts d.padstacks w.metal own lib.stacks h.copper));
      net_in_range = omega arith;
    }

-- each free wire and via has a net of the design, and copper that fits
pub free_sound : (parts : Parts) (stacks : List Padstack) → ArePadstacksOf parts stacks → IsLibrarySound parts.library
    → IsWiringSound parts.structure parts.library parts.network parts.wiring
    → All (IsFreeSound (design_from parts stacks)) (design_from parts stacks).free
unfolding design_with free_wiring
free_sound parts stacks own lib wires =
    let d = design_from parts stacks in
    let kept = filter is_free parts.wiring.wires in
    let passes = filter_passes is_free parts.wiring.wires in
    let sound = All-filter is_free (IsWireSound parts.structure parts.library parts.network) parts.wiring.wires
    wires.wires in
    All-map (IsFreeSound d) free_wire kept
    (λ k x l. wire_sound d parts (layers_are parts stacks) (nets_are parts stacks) own lib (get_or kept k x)
    (not-true (get_or kept k x).fixed (passes k x l)) (sound k x l))
