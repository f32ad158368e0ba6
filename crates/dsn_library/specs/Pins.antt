-- Pins of an image, such as `(pin PAD (rotate 90) 1 0 0)`: padstack, angle, name and place.
use Rattle.std.specs.Prelude.{◌++◌, [], ◌∷◌, ℕ, List, Option, Some, None, codes, unwrap_or}
use Rattle.std.specs.Option.{option_map_or}
use Rattle.dsn_tree.specs.declared.tree.Tree.{Tree}
use Rattle.dsn_tree.specs.Heads.{child}
use Rattle.geo_kernel.specs.declared.point.Point.{Point}
use Rattle.dsn_units.specs.declared.angle.Angle.{Angle}
use Rattle.dsn_shapes.specs.declared.refusal.Refusal.{Refusal}
use Rattle.dsn_shapes.specs.declared.parts.ImagePin.{ImagePin}
use Rattle.dsn_shapes.specs.Refusals.{refused}
use Rattle.dsn_shapes.specs.Lists.{at_of, nth_word, name_of, place_of}
use Rattle.dsn_shapes.specs.Numbers.{coord_at, coord_refusal}
use Rattle.dsn_shapes.specs.Angles.{word_angle, word_angle_refusal, no_turn}
use Rattle.dsn_shapes.specs.Names.{first_place, place_index}
use Rattle.dsn_shapes.specs.declared.table.TheConstants.{NO_NUMBER, NO_PADSTACK}

-- ---- angles
-- the degrees of a list such as `(rotate 180)`, where they are wanted
unfoldable pub degrees_in : Tree → Angle
degrees_in t = unwrap_or (option_map_or word_angle (nth_word t 1) None) no_turn

unfoldable pub degrees_refusals : Tree → List Refusal
degrees_refusals t = option_map_or word_angle_refusal (nth_word t 1) (refused NO_NUMBER (at_of t) ∷ [])

-- the angle of a pin; one without such a list isn't turned
unfoldable pub rotation_of : Tree → Angle
rotation_of t = option_map_or degrees_in (child t (codes "rotate")) no_turn

unfoldable pub rotation_refusals : Tree → List Refusal
rotation_refusals t = option_map_or degrees_refusals (child t (codes "rotate")) []

-- ---- padstacks, which have these names; a pin may name one that stands behind it
abbrev pub stack_at : Option ℕ → ℕ
stack_at None = 0
stack_at (Some n) = place_index n

unfoldable pub pin_stack : List (List ℕ) → Tree → ℕ
pin_stack stacks t = stack_at (first_place (name_of t 1) stacks)

abbrev pub unknown_at : ℕ → Option ℕ → List Refusal
unknown_at at None = refused NO_PADSTACK at ∷ []
unknown_at at (Some n) = []

unfoldable pub unknown_stack : List (List ℕ) → Tree → List Refusal
unknown_stack stacks t = unknown_at (place_of t 1) (first_place (name_of t 1) stacks)

-- ---- the whole
-- where a pin stands in its image
unfoldable pub pin_place : ℕ → Tree → Point
pin_place nm t = record { x = coord_at nm t 3; y = coord_at nm t 4 }

unfoldable pub pin_place_refusals : ℕ → Tree → List Refusal
pin_place_refusals nm t = coord_refusal nm t 3 ++ coord_refusal nm t 4

-- a pin of an image, where the padstacks have these names
unfoldable pub pin_of : ℕ → List (List ℕ) → Tree → ImagePin
pin_of nm stacks t =
    record { name = name_of t 2; stack = pin_stack stacks t; at = pin_place nm t; angle = rotation_of t }

unfoldable pub pin_refusals : ℕ → List (List ℕ) → Tree → List Refusal
pin_refusals nm stacks t = unknown_stack stacks t ++ (pin_place_refusals nm t ++ rotation_refusals t)
