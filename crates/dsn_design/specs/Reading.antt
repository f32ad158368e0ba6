-- What the sections of a tree hold, and the first refusal of its phases.
use Rattle.std.specs.Prelude.{◌≡◌, ◌⊎◌, ℕ, List, Result, Ok, Err}
use Rattle.pcb_model.specs.declared.design.Design.{Design}
use Rattle.dsn_tree.specs.declared.tree.Tree.{Tree}
use Rattle.dsn_tree.specs.declared.fault.TreeFault.{TreeFault}
use Rattle.dsn_tree.specs.Trees.{HasTree, HasFault, Unless}
use Rattle.dsn_shapes.specs.declared.parts.Head.{Head}
use Rattle.dsn_shapes.specs.declared.parts.Structure.{Structure}
use Rattle.dsn_shapes.specs.declared.parts.Library.{Library}
use Rattle.dsn_shapes.specs.declared.parts.Placing.{Placing}
use Rattle.dsn_shapes.specs.declared.parts.Network.{Network}
use Rattle.dsn_shapes.specs.declared.parts.Wiring.{Wiring}
use Rattle.dsn_shapes.specs.declared.refusal.Refusal.{Refusal}
use Rattle.dsn_shapes.specs.declared.refusal.ReadFault.{ReadFault}
use Rattle.dsn_shapes.specs.declared.refusal.ReadFault.TheVariants.{Refused, Memory}
use Rattle.dsn_shapes.specs.declared.refusal.DesignFault.{DesignFault}
use Rattle.dsn_shapes.specs.declared.refusal.DesignFault.TheVariants as fault
use Rattle.dsn_shapes.specs.Refusals.{Reads}
use Rattle.dsn_structure.specs.Header.{head_of, head_refusals}
use Rattle.dsn_structure.specs.Layout.{structure_of, structure_refusals}
use Rattle.dsn_library.specs.Whole.{library_of, library_refusals}
use Rattle.dsn_placement.specs.Placing.{placing_of, placement_refusals}
use Rattle.dsn_network.specs.Whole.{network_of, network_refusals}
use Rattle.dsn_wiring.specs.Whole.{wiring_of, wiring_refusals}
use Rattle.dsn_design.specs.declared.parts.Parts.{Parts}
use Rattle.dsn_design.specs.Made.{IsDesignOf}

-- ---- phases, each over what the earlier ones read
abbrev pub ReadsHead : Tree → Result Head ReadFault → Type 0
ReadsHead pcb r = Reads (head_refusals pcb) (λ v. v ≡ head_of pcb) r

abbrev pub ReadsStructure : Tree → Head → Result Structure ReadFault → Type 0
ReadsStructure pcb h r = Reads (structure_refusals h.scale.nm pcb) (λ v. v ≡ structure_of h.scale.nm pcb) r

abbrev pub ReadsLibrary : Tree → Head → Structure → Result Library ReadFault → Type 0
ReadsLibrary pcb h st r =
    Reads (library_refusals h.scale.nm st.layers pcb) (λ v. v ≡ library_of h.scale.nm st.layers pcb) r

abbrev pub ReadsPlacing : Tree → Head → Structure → Library → Result Placing ReadFault → Type 0
ReadsPlacing pcb h st lib r =
    Reads (placement_refusals h.scale.nm st lib pcb) (λ v. v ≡ placing_of h.scale.nm st lib pcb) r

abbrev pub ReadsNetwork : Tree → Head → Library → Placing → Result Network ReadFault → Type 0
ReadsNetwork pcb h lib placing r =
    Reads (network_refusals h.scale.nm lib placing pcb) (λ v. v ≡ network_of h.scale.nm lib placing pcb) r

abbrev pub ReadsWiring : Tree → Head → Structure → Library → Placing → Network → Result Wiring ReadFault → Type 0
ReadsWiring pcb h st lib placing net r =
    Reads (wiring_refusals h.scale.nm st lib placing net pcb) (λ v. v ≡ wiring_of h.scale.nm st lib placing net pcb) r

-- the parts of a tree of which no phase is refused
pub record ArePartsOf (pcb : Tree) (p : Parts) : Type 0 where
  pub head : ReadsHead pcb (Ok p.head)
  pub structure : ReadsStructure pcb p.head (Ok p.structure)
  pub library : ReadsLibrary pcb p.head p.structure (Ok p.library)
  pub placing : ReadsPlacing pcb p.head p.structure p.library (Ok p.placing)
  pub network : ReadsNetwork pcb p.head p.library p.placing (Ok p.network)
  pub wiring : ReadsWiring pcb p.head p.structure p.library p.placing p.network (Ok p.wiring)

-- the refusal that counts: that of the first phase that has one
pub data FirstRefusal (pcb : Tree) (r : Refusal) : Type 0 where
  in_head : ReadsHead pcb (Err (Refused r)) → FirstRefusal pcb r
  in_structure : (h : Head) → ReadsHead pcb (Ok h) → ReadsStructure pcb h (Err (Refused r)) → FirstRefusal pcb r
  in_library : (h : Head) (st : Structure) → ReadsHead pcb (Ok h) → ReadsStructure pcb h (Ok st)
      → ReadsLibrary pcb h st (Err (Refused r)) → FirstRefusal pcb r
  in_placement : (h : Head) (st : Structure) (lib : Library) → ReadsHead pcb (Ok h) → ReadsStructure pcb h (Ok st)
      → ReadsLibrary pcb h st (Ok lib) → ReadsPlacing pcb h st lib (Err (Refused r)) → FirstRefusal pcb r
  in_network : (h : Head) (st : Structure) (lib : Library) (placing : Placing) → ReadsHead pcb (Ok h)
      → ReadsStructure pcb h (Ok st) → ReadsLibrary pcb h st (Ok lib) → ReadsPlacing pcb h st lib (Ok placing)
      → ReadsNetwork pcb h lib placing (Err (Refused r)) → FirstRefusal pcb r
  in_wiring : (h : Head) (st : Structure) (lib : Library) (placing : Placing) (net : Network) → ReadsHead pcb (Ok h)
      → ReadsStructure pcb h (Ok st) → ReadsLibrary pcb h st (Ok lib) → ReadsPlacing pcb h st lib (Ok placing)
      → ReadsNetwork pcb h lib placing (Ok net) → ReadsWiring pcb h st lib placing net (Err (Refused r))
      → FirstRefusal pcb r

-- what reading the sections of a tree answers
abbrev pub ReadsParts : Tree → Result Parts ReadFault → Type 0
ReadsParts pcb (Ok p) = ArePartsOf pcb p
ReadsParts pcb (Err (Refused r)) = FirstRefusal pcb r
ReadsParts pcb (Err (Memory e)) = Unit {0}

-- ---- texts
pub record HasDesign (text : List ℕ) (d : Design) : Type 0 where
  pub pcb : Tree
  pub tree : HasTree text pcb
  pub parts : Parts
  pub are_parts : ArePartsOf pcb parts
  pub design : IsDesignOf parts d

pub record HasRefusal (text : List ℕ) (r : Refusal) : Type 0 where
  pub pcb : Tree
  pub tree : HasTree text pcb
  pub first : FirstRefusal pcb r

-- what reading a text answers: its design, the fault of its tree that is met first, or the refusal that counts
abbrev pub ReadsDesign : List ℕ → Result Design DesignFault → Type 0
ReadsDesign text (Ok d) = HasDesign text d
ReadsDesign text (Err (fault.Spelling f)) = Unless f (HasFault text f)
ReadsDesign text (Err (fault.Refused r)) = HasRefusal text r
ReadsDesign text (Err (fault.Memory e)) = Unit {0}

-- Each text has a design, a fault of its tree, or a refusal of its sections, and just one of these.
pub record OneOutcome : Type 0 where
  pub some : (text : List ℕ) → ((d : Design) → HasDesign text d → ⊥) → ((f : TreeFault) × HasFault text f)
      ⊎ ((r : Refusal) × HasRefusal text r)
  pub designs : (text : List ℕ) (d e : Design) → HasDesign text d → HasDesign text e → d ≡ e
  pub faults : (text : List ℕ) (f g : TreeFault) → HasFault text f → HasFault text g → f ≡ g
  pub refusals : (text : List ℕ) (r s : Refusal) → HasRefusal text r → HasRefusal text s → r ≡ s
  pub no_fault : (text : List ℕ) (d : Design) (f : TreeFault) → HasDesign text d → HasFault text f → ⊥
  pub no_refusal : (text : List ℕ) (d : Design) (r : Refusal) → HasDesign text d → HasRefusal text r → ⊥
  pub apart : (text : List ℕ) (f : TreeFault) (r : Refusal) → HasFault text f → HasRefusal text r → ⊥
