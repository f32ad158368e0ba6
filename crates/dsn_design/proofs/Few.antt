-- The parts of a design are at most as many as its text has bytes.
use Rattle.std.proofs.Common.{◌≤◌, ℕ, Bool, true, false, cond, List, [], ◌∷◌, Some, None, length, map, arith}
use Rattle.std.specs.Prelude.{◌==◌, All, IfSome, codes}
use Rattle.std.proofs.lemmas.List.{length-map}
use Rattle.std.proofs.lemmas.List.Elements.{All-map, All-weaker}
use Rattle.dsn_tree.specs.declared.tree.Tree.{Tree}
use Rattle.dsn_shapes.specs.declared.parts.Layer.{Layer}
use Rattle.dsn_shapes.specs.declared.parts.Library.{Library}
use Rattle.dsn_shapes.specs.declared.parts.Placing.{Placing}
use Rattle.dsn_shapes.specs.declared.parts.ReadClass.{ReadClass}
use Rattle.dsn_shapes.specs.declared.parts.Structure.{Structure}
use Rattle.dsn_shapes.specs.Lists.{lists, text_of}
use Rattle.dsn_shapes.specs.Names.{names_at, stack_names}
use Rattle.dsn_structure.specs.Layout.{structure_of, structures, value_of as structure_value}
use Rattle.dsn_structure.specs.Layout.{via_lists as structure_via_lists, via_names, via_words}
use Rattle.dsn_library.specs.Padstacks.{stack_of}
use Rattle.dsn_library.specs.Images.{image_of}
use Rattle.dsn_library.specs.Whole.{images, library_of, padstacks}
use Rattle.dsn_placement.specs.Places.{places_in}
use Rattle.dsn_placement.specs.Placing.{components, placing_of}
use Rattle.dsn_placement.proofs.Sound.{places_count}
use Rattle.dsn_network.specs.Words.{words_in}
use Rattle.dsn_network.specs.Classes.{circuits_in, read_class_of, via_lists, via_stack, vias_of}
use Rattle.dsn_network.specs.Whole.{class_lists, network_of, value_of}
use Rattle.dsn_design.specs.Sound.{weight}
use Rattle.dsn_design.proofs.Counted.{count_weight, each_alone, items_from_weight, lists_weight, words_weight}

made_few : {V : Type 0} (make : Tree → V) (ts : List Tree) (n : ℕ) → weight ts ≤ n → length (map make ts) ≤ n
made_few make ts n h = omega (arith, length-map ts make, count_weight ts)

-- lists of a section
within_section : (heads section : List (List ℕ)) (pcb : Tree) (n : ℕ) → weight (pcb ∷ []) ≤ n
    → weight (lists heads (lists section (pcb ∷ []))) ≤ n
within_section heads section pcb n h =
    omega (arith, lists_weight heads (lists section (pcb ∷ [])), lists_weight section (pcb ∷ []))

-- ---- the structure
pub structure_vias_few : (nm : ℕ) (pcb : Tree) (n : ℕ) → weight (pcb ∷ []) ≤ n → length (structure_of nm pcb).vias ≤ n
unfolding structure_of structure_value via_names
structure_vias_few nm pcb n h =
    let vias = structure_via_lists (structures pcb) in
    made_few text_of (via_words vias) n
    (omega (arith, items_from_weight 1 vias, within_section (codes "via" ∷ []) (codes "structure" ∷ []) pcb n h))

-- ---- the library
pub stacks_few : (nm : ℕ) (layers : List Layer) (pcb : Tree) (n : ℕ) → weight (pcb ∷ []) ≤ n
    → length (library_of nm layers pcb).stacks ≤ n
stacks_few nm layers pcb n h =
    made_few (stack_of nm layers) (padstacks pcb) n
    (within_section (codes "padstack" ∷ []) (codes "library" ∷ []) pcb n h)

pub images_few : (nm : ℕ) (layers : List Layer) (pcb : Tree) (n : ℕ) → weight (pcb ∷ []) ≤ n
    → length (library_of nm layers pcb).images ≤ n
images_few nm layers pcb n h =
    made_few (image_of nm layers (names_at 1 (padstacks pcb))) (images pcb) n
    (within_section (codes "image" ∷ []) (codes "library" ∷ []) pcb n h)

-- ---- the placement
pub places_few : (nm : ℕ) (st : Structure) (lib : Library) (pcb : Tree) (n : ℕ) → weight (pcb ∷ []) ≤ n
    → length (placing_of nm st lib pcb).places ≤ n
places_few nm st lib pcb n h =
    omega (
      arith,
      places_count nm st lib pcb,
      count_weight (places_in (components pcb)),
      lists_weight (codes "place" ∷ []) (components pcb),
      within_section (codes "component" ∷ []) (codes "placement" ∷ []) pcb n h,
    )

-- ---- the network

pub classes_few : (nm : ℕ) (lib : Library) (placing : Placing) (pcb : Tree) (n : ℕ) → weight (pcb ∷ []) ≤ n
    → length (network_of nm lib placing pcb).classes ≤ n
unfolding value_of
classes_few nm lib placing pcb n h =
    made_few (read_class_of nm (stack_names lib.stacks)) (class_lists pcb) n
    (within_section (codes "class" ∷ []) (codes "network" ∷ []) pcb n h)

some_few : (b : Bool) (vs : List ℕ) (n : ℕ) → length vs ≤ n → IfSome (cond b None (Some vs)) (λ us. length us ≤ n)
some_few true vs n h = tt
some_few false vs n h = h

vias_few : (nm : ℕ) (stacks : List (List ℕ)) (n : ℕ) (t : Tree) → weight (t ∷ []) ≤ n
    → IfSome (read_class_of nm stacks t).vias (λ vs. length vs ≤ n)
unfolding read_class_of vias_of
vias_few nm stacks n t h =
    let vias = via_lists (t ∷ []) in
    some_few (length vias == 0) (map (via_stack stacks) (words_in 1 vias)) n
    (made_few (via_stack stacks) (words_in 1 vias) n
    (omega (
      arith,
      words_weight 1 vias,
      lists_weight (codes "use_via" ∷ []) (circuits_in (t ∷ [])),
      lists_weight (codes "circuit" ∷ []) (t ∷ []),
    )))

pub class_vias_few : (nm : ℕ) (lib : Library) (placing : Placing) (pcb : Tree) (n : ℕ) → weight (pcb ∷ []) ≤ n
    → All (λ (c : ReadClass). IfSome c.vias (λ vs. length vs ≤ n)) (network_of nm lib placing pcb).classes
unfolding value_of
class_vias_few nm lib placing pcb n h =
    let stacks = stack_names lib.stacks in
    All-map (λ (c : ReadClass). IfSome c.vias (λ vs. length vs ≤ n)) (read_class_of nm stacks) (class_lists pcb)
    (All-weaker (λ t. weight (t ∷ []) ≤ n) (λ t. IfSome (read_class_of nm stacks t).vias (λ vs. length vs ≤ n))
    (vias_few nm stacks n) (class_lists pcb)
    (each_alone (class_lists pcb) n (within_section (codes "class" ∷ []) (codes "network" ∷ []) pcb n h)))
