-- The library: the padstacks and the images of all its sections together.
use Rattle.std.specs.Prelude.{◌+◌, ℕ, List, [], ◌∷◌, ◌++◌, codes, map, sum_by}
use Rattle.dsn_tree.specs.declared.tree.Tree.{Tree}
use Rattle.dsn_shapes.specs.declared.known.ListKind.TheVariants as list
use Rattle.dsn_shapes.specs.declared.refusal.Refusal.{Refusal}
use Rattle.dsn_shapes.specs.declared.parts.Layer.{Layer}
use Rattle.dsn_shapes.specs.declared.parts.Library.{Library}
use Rattle.dsn_shapes.specs.Lists.{lists, capped, notes_in, left_out_in}
use Rattle.dsn_shapes.specs.Names.{names_at}
use Rattle.dsn_shapes.specs.Shapes.{notes_beside, ban_notes}
use Rattle.dsn_library.specs.Padstacks.{shapes_in, stack_of, stacks_refusals}
use Rattle.dsn_library.specs.Images.{pins_in, keepouts_in, image_of, images_refusals}

abbrev pub libraries : Tree → List Tree
libraries pcb = lists (codes "library" ∷ []) (pcb ∷ [])

abbrev pub padstacks : Tree → List Tree
padstacks pcb = lists (codes "padstack" ∷ []) (libraries pcb)

abbrev pub images : Tree → List Tree
images pcb = lists (codes "image" ∷ []) (libraries pcb)

-- ---- lists that are left out or passed over, beside those of the table `read_in` and `idle_in`
-- directly in the sections and the images
unfoldable pub sections_left_out : List Tree → List Tree → List Refusal
sections_left_out libs imgs = left_out_in libs ++ left_out_in imgs

unfoldable pub sections_passed : List Tree → List Tree → ℕ
sections_passed libs imgs = notes_in list.Library libs + notes_in list.Image imgs

-- directly in the pins and the padstacks
unfoldable pub parts_left_out : List Tree → List Tree → List Refusal
parts_left_out pins stacks = left_out_in pins ++ left_out_in stacks

unfoldable pub parts_passed : List Tree → List Tree → ℕ
parts_passed pins stacks = notes_in list.Pin pins + notes_in list.Padstack stacks

-- beside the forms of shapes and keepouts
unfoldable pub forms_passed : List Tree → List Tree → ℕ
forms_passed shapes bans = sum_by notes_beside shapes + sum_by ban_notes bans

-- all of a library with these sections, images and padstacks
unfoldable pub library_left_out : List Tree → List Tree → List Tree → List Refusal
library_left_out libs imgs stacks = sections_left_out libs imgs ++ parts_left_out (pins_in imgs) stacks

unfoldable pub library_notes : List Tree → List Tree → List Tree → ℕ
library_notes libs imgs stacks =
    sections_passed libs
    imgs + (parts_passed (pins_in imgs) stacks + forms_passed (shapes_in stacks) (keepouts_in imgs))

-- ---- the whole
-- all refusals of the library
abbrev pub library_refusals : ℕ → List Layer → Tree → List Refusal
library_refusals nm layers pcb = library_left_out (libraries pcb) (images pcb) (padstacks pcb)
    ++ (stacks_refusals nm layers (padstacks pcb)
    ++ images_refusals nm layers (names_at 1 (padstacks pcb)) (images pcb))

-- its value
abbrev pub library_of : ℕ → List Layer → Tree → Library
library_of nm layers pcb = record {
  stacks = map (stack_of nm layers) (padstacks pcb);
  images = map (image_of nm layers (names_at 1 (padstacks pcb))) (images pcb);
  notes = capped (library_notes (libraries pcb) (images pcb) (padstacks pcb));
}
