-- Each refusal of a library is one of the table.
use Rattle.std.proofs.Common.{ℕ, List, [], ◌∷◌, Option, Some, None, refl}
use Rattle.std.specs.Prelude.{codes}
use Rattle.dsn_tree.specs.declared.tree.Tree.{Tree}
use Rattle.dsn_tree.specs.Heads.{child}
use Rattle.dsn_shapes.specs.declared.parts.Layer.{Layer}
use Rattle.dsn_shapes.specs.Angles.{word_angle_refusal}
use Rattle.dsn_shapes.specs.Lists.{at_of, name_of, nth_word, place_of}
use Rattle.dsn_shapes.specs.Names.{first_place, names_at}
use Rattle.dsn_shapes.specs.Shapes.{ban_refusals, refusals_in, shape_refusals}
use Rattle.dsn_shapes.proofs.Tabled.{AreTabled, all_left_out_tabled, angle_tabled, ban_tabled, both, coord_tabled, each}
use Rattle.dsn_shapes.proofs.Tabled.{held_tabled, names_tabled, none, of_some, one, quoted_tabled, shape_tabled}
use Rattle.dsn_library.specs.Padstacks.{shapes_in, stack_refusals, stacks_refusals}
use Rattle.dsn_library.specs.Pins.{degrees_refusals, pin_place_refusals, pin_refusals, rotation_refusals, unknown_at}
use Rattle.dsn_library.specs.Pins.{unknown_stack}
use Rattle.dsn_library.specs.Images.{image_refusals, images_refusals, keepouts_in, pins_in, pins_refusals}
use Rattle.dsn_library.specs.Whole.{images, libraries, library_left_out, library_refusals, padstacks, parts_left_out}
use Rattle.dsn_library.specs.Whole.{sections_left_out}

-- ---- padstacks
stack_tabled : (nm : ℕ) (layers : List Layer) (t : Tree) → AreTabled (stack_refusals nm layers t)
unfolding stack_refusals
stack_tabled nm layers t =
    both _ _ (quoted_tabled t 1)
    (each (refusals_in (shape_refusals nm layers)) (held_tabled (shape_refusals nm layers) (shape_tabled nm layers))
    (shapes_in (t ∷ [])))

stacks_tabled : (nm : ℕ) (layers : List Layer) (ts : List Tree) → AreTabled (stacks_refusals nm layers ts)
unfolding stacks_refusals
stacks_tabled nm layers ts = both _ _ (names_tabled 1 ts) (each (stack_refusals nm layers) (stack_tabled nm layers) ts)

-- ---- pins
unknown_tabled : (at : ℕ) (o : Option ℕ) → AreTabled (unknown_at at o)
unknown_tabled at None = one 14 at refl
unknown_tabled at (Some n) = none

unknown_stack_tabled : (stacks : List (List ℕ)) (t : Tree) → AreTabled (unknown_stack stacks t)
unfolding unknown_stack
unknown_stack_tabled stacks t = unknown_tabled (place_of t 1) (first_place (name_of t 1) stacks)

degrees_tabled : (t : Tree) → AreTabled (degrees_refusals t)
unfolding degrees_refusals
degrees_tabled t = of_some word_angle_refusal (nth_word t 1) _ angle_tabled (one 9 (at_of t) refl)

rotation_tabled : (t : Tree) → AreTabled (rotation_refusals t)
unfolding rotation_refusals
rotation_tabled t = of_some degrees_refusals (child t (codes "rotate")) [] degrees_tabled none

pin_place_tabled : (nm : ℕ) (t : Tree) → AreTabled (pin_place_refusals nm t)
unfolding pin_place_refusals
pin_place_tabled nm t = both _ _ (coord_tabled nm t 3) (coord_tabled nm t 4)

pin_tabled : (nm : ℕ) (stacks : List (List ℕ)) (t : Tree) → AreTabled (pin_refusals nm stacks t)
unfolding pin_refusals
pin_tabled nm stacks t = both _ _ (unknown_stack_tabled stacks t) (both _ _ (pin_place_tabled nm t) (rotation_tabled t))

-- ---- images
pins_tabled : (nm : ℕ) (stacks : List (List ℕ)) (ts : List Tree) → AreTabled (pins_refusals nm stacks ts)
unfolding pins_refusals
pins_tabled nm stacks ts = both _ _ (names_tabled 2 ts) (each (pin_refusals nm stacks) (pin_tabled nm stacks) ts)

image_tabled : (nm : ℕ) (layers : List Layer) (stacks : List (List ℕ)) (t : Tree)
    → AreTabled (image_refusals nm layers stacks t)
unfolding image_refusals
image_tabled nm layers stacks t =
    both _ _ (quoted_tabled t 1)
    (both _ _ (pins_tabled nm stacks (pins_in (t ∷ [])))
    (each (ban_refusals nm layers) (ban_tabled nm layers) (keepouts_in (t ∷ []))))

images_tabled : (nm : ℕ) (layers : List Layer) (stacks : List (List ℕ)) (ts : List Tree)
    → AreTabled (images_refusals nm layers stacks ts)
unfolding images_refusals
images_tabled nm layers stacks ts =
    both _ _ (names_tabled 1 ts) (each (image_refusals nm layers stacks) (image_tabled nm layers stacks) ts)

-- ---- the whole
left_out_tabled : (libs imgs stacks : List Tree) → AreTabled (library_left_out libs imgs stacks)
unfolding library_left_out sections_left_out parts_left_out
left_out_tabled libs imgs stacks =
    both _ _ (both _ _ (all_left_out_tabled libs) (all_left_out_tabled imgs))
    (both _ _ (all_left_out_tabled (pins_in imgs)) (all_left_out_tabled stacks))

pub library_tabled : (nm : ℕ) (layers : List Layer) (pcb : Tree) → AreTabled (library_refusals nm layers pcb)
library_tabled nm layers pcb =
    both _ _ (left_out_tabled (libraries pcb) (images pcb) (padstacks pcb))
    (both _ _ (stacks_tabled nm layers (padstacks pcb))
    (images_tabled nm layers (names_at 1 (padstacks pcb)) (images pcb)))
