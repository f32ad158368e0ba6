-- Of a tree of at most 2^26 tokens no section's count comes to 2^64 - 1, so each is the plain sum.
-- The bounds of the sums are those of `Sections`: at most fifteen times the tree's weight.
use Rattle.std.proofs.Common.{◌≡◌, ◌≤◌, ◌+◌, ◌^◌, ℕ, List, [], ◌∷◌, length, arith}
use Rattle.std.specs.Prelude.{All}
use Rattle.std.proofs.lemmas.List.Elements.{All-map, All-weaker}
use Rattle.dsn_tree.specs.declared.tree.Tree.{Tree}
use Rattle.dsn_shapes.specs.declared.parts.Layer.{Layer}
use Rattle.dsn_shapes.specs.declared.parts.Library.{Library}
use Rattle.dsn_shapes.specs.declared.parts.Network.{Network}
use Rattle.dsn_shapes.specs.declared.parts.Placing.{Placing}
use Rattle.dsn_shapes.specs.declared.parts.Structure.{Structure}
use Rattle.dsn_shapes.specs.Lists.{capped}
use Rattle.dsn_shapes.specs.Names.{names_at}
use Rattle.dsn_structure.specs.Header.{head_of}
use Rattle.dsn_structure.specs.Layout.{structure_of, value_of as structure_value}
use Rattle.dsn_library.specs.Images.{image_of}
use Rattle.dsn_library.specs.Whole.{images, library_of, padstacks}
use Rattle.dsn_placement.specs.Placing.{items_before, placing_of}
use Rattle.dsn_network.specs.Whole.{network_of, value_of as network_value}
use Rattle.dsn_wiring.specs.Whole.{wiring_of}
use Rattle.dsn_design.specs.Sound.{weight}
use Rattle.dsn_design.proofs.Counted.{each_alone}
use Rattle.count_law.specs.Counts.{HasPlainItems, head_sum, library_sum, network_sum, placement_sum, structure_sum}
use Rattle.count_law.specs.Counts.{wiring_sum}
use Rattle.count_law.proofs.Sections.{fixed_weight, head_weight, image_weight, images_weight, library_weight}
use Rattle.count_law.proofs.Sections.{network_weight, placement_weight, structure_weight, wiring_weight}

-- a count of at most 2^60 is as it is
plain : (n : ℕ) → n ≤ 2 ^ 60 → capped n ≡ n
plain n h = omega arith

-- ---- the notes of each section
-- the head's
pub head_plain : (pcb : Tree) → weight (pcb ∷ []) ≤ 2 ^ 26 → (head_of pcb).notes ≡ head_sum pcb
head_plain pcb h = plain (head_sum pcb) (omega (arith, head_weight pcb))

-- the structure's
pub structure_plain : (nm : ℕ) (pcb : Tree) → weight (pcb ∷ []) ≤ 2 ^ 26
    → (structure_of nm pcb).notes ≡ structure_sum pcb
unfolding structure_of structure_value
structure_plain nm pcb h = plain (structure_sum pcb) (omega (arith, structure_weight pcb))

-- the library's
pub library_plain : (nm : ℕ) (layers : List Layer) (pcb : Tree) → weight (pcb ∷ []) ≤ 2 ^ 26
    → (library_of nm layers pcb).notes ≡ library_sum pcb
library_plain nm layers pcb h = plain (library_sum pcb) (omega (arith, library_weight pcb))

-- the placement's
pub placement_plain : (nm : ℕ) (st : Structure) (lib : Library) (pcb : Tree) → weight (pcb ∷ []) ≤ 2 ^ 26
    → (placing_of nm st lib pcb).notes ≡ placement_sum pcb
placement_plain nm st lib pcb h = plain (placement_sum pcb) (omega (arith, placement_weight pcb))

-- the network's
pub network_plain : (nm : ℕ) (lib : Library) (placing : Placing) (pcb : Tree) → weight (pcb ∷ []) ≤ 2 ^ 26
    → (network_of nm lib placing pcb).notes ≡ network_sum pcb
unfolding network_value
network_plain nm lib placing pcb h = plain (network_sum pcb) (omega (arith, network_weight pcb))

-- the wiring's
pub wiring_plain : (nm : ℕ) (st : Structure) (lib : Library) (placing : Placing) (net : Network) (pcb : Tree)
    → weight (pcb ∷ []) ≤ 2 ^ 26 → (wiring_of nm st lib placing net pcb).notes ≡ wiring_sum pcb
wiring_plain nm st lib placing net pcb h = plain (wiring_sum pcb) (omega (arith, wiring_weight pcb))

-- ---- items
-- of the structure: its boundaries and keepouts
pub fixed_plain : (nm : ℕ) (pcb : Tree) → weight (pcb ∷ []) ≤ 2 ^ 26 → items_before (structure_of nm pcb)
    ≡ length (structure_of nm pcb).bounds + length (structure_of nm pcb).bans
fixed_plain nm pcb h = plain (length (structure_of nm pcb).bounds + length (structure_of nm pcb).bans)
    (omega (arith, fixed_weight nm pcb))

-- of one image: its keepouts and pins
image_plain : (nm : ℕ) (layers : List Layer) (stacks : List (List ℕ)) (t : Tree) → weight (t ∷ []) ≤ 2 ^ 26
    → HasPlainItems (image_of nm layers stacks t)
image_plain nm layers stacks t h =
    plain (length (image_of nm layers stacks t).bans + length (image_of nm layers stacks t).pins)
    (omega (arith, image_weight nm layers stacks t))

-- of each image of the library
pub images_plain : (nm : ℕ) (layers : List Layer) (pcb : Tree) → weight (pcb ∷ []) ≤ 2 ^ 26
    → All HasPlainItems (library_of nm layers pcb).images
images_plain nm layers pcb h =
    let stacks = names_at 1 (padstacks pcb) in
    All-map HasPlainItems (image_of nm layers stacks) (images pcb)
    (All-weaker (λ t. weight (t ∷ []) ≤ 2 ^ 26) (λ t. HasPlainItems (image_of nm layers stacks t))
    (image_plain nm layers stacks) (images pcb)
    (each_alone (images pcb) (2 ^ 26) (omega (arith, images_weight pcb))))
