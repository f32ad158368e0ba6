-- Vias: a padstack of the library and its place.
use Rattle.std.specs.Prelude.{◌+ℤ◌, ◌||◌, ◌^◌, nat_lt, unsigned_abs, ℕ, ℤ, Bool, false, List, [], ◌∷◌, ◌++◌, Option}
use Rattle.std.specs.Prelude.{Some, None, is_some, slice_get, unwrap_or, if◌then◌else◌}
use Rattle.std.specs.List.{list_any}
use Rattle.std.specs.Option.{option_map_or}
use Rattle.dsn_tree.specs.declared.tree.Tree.{Tree}
use Rattle.geo_kernel.specs.declared.point.Point.{Point}
use Rattle.geo_kernel.specs.declared.spine.Spine.{Spine}
use Rattle.geo_kernel.specs.declared.spine.Spine.TheVariants.{Chain, Area}
use Rattle.pcb_model.specs.declared.item.Metal.{Metal}
use Rattle.pcb_model.specs.declared.item.Metal.TheVariants.{Via}
use Rattle.pcb_model.specs.Sound.{origin}
use Rattle.dsn_shapes.specs.declared.refusal.Refusal.{Refusal}
use Rattle.dsn_shapes.specs.declared.parts.LayerShape.{LayerShape}
use Rattle.dsn_shapes.specs.declared.parts.Stack.{Stack}
use Rattle.dsn_shapes.specs.Refusals.{refused}
use Rattle.dsn_shapes.specs.Lists.{at_of, name_of, nth_word, place_of}
use Rattle.dsn_shapes.specs.Names.{first_place, place_index}
use Rattle.dsn_shapes.specs.Numbers.{word_coord, coord_refusal}
use Rattle.dsn_shapes.specs.declared.table.TheConstants.{NO_PADSTACK, OUT_OF_RANGE}

-- ---- padstacks of these names
abbrev pub stack_place : List (List ℕ) → Tree → Option ℕ
stack_place names t = first_place (name_of t 1) names

unfoldable pub unknown_stack : List (List ℕ) → Tree → List Refusal
unknown_stack names t = if is_some (stack_place names t) then [] else refused NO_PADSTACK (place_of t 1) ∷ []

-- ---- the place of a via: its two numbers, where neither is refused
abbrev pub coord_of : ℕ → Tree → ℕ → Option ℤ
coord_of nm t i = option_map_or (word_coord nm) (nth_word t i) None

abbrev pub point_by : Option ℤ → Option ℤ → Option Point
point_by None y = None
point_by (Some x) None = None
point_by (Some x) (Some y) = Some (record { x = x; y = y })

unfoldable pub via_place : ℕ → Tree → Option Point
via_place nm t = point_by (coord_of nm t 2) (coord_of nm t 3)

unfoldable pub via_place_refusals : ℕ → Tree → List Refusal
via_place_refusals nm t = coord_refusal nm t 2 ++ coord_refusal nm t 3

-- ---- vertices of the padstack at that place
-- a coordinate, moved, is past 2^29
abbrev pub is_far : ℤ → ℤ → Bool
is_far a by = nat_lt (2 ^ 29) (unsigned_abs (a +ℤ by))

abbrev pub is_past : Point → Point → Bool
is_past at p = is_far p.x at.x || is_far p.y at.y

abbrev pub spine_past : Point → Spine → Bool
spine_past at (Chain ps) = list_any (is_past at) ps
spine_past at (Area loops) = list_any (list_any (is_past at)) loops

abbrev pub stack_past : Point → Stack → Bool
stack_past at s = list_any (λ (shape : LayerShape). spine_past at shape.spine) s.shapes

abbrev pub stack_at : List Stack → Option ℕ → Option Stack
stack_at stacks None = None
stack_at stacks (Some i) = slice_get stacks i

abbrev pub is_via_past : Option Stack → Option Point → Bool
is_via_past s at = option_map_or (λ p. option_map_or (stack_past p) s false) at false

unfoldable pub past_refusal : List Stack → Option ℕ → Option Point → Tree → List Refusal
past_refusal stacks place at t =
    if is_via_past (stack_at stacks place) at then refused OUT_OF_RANGE (at_of t) ∷ [] else []

-- ---- the via
unfoldable pub via_metal : ℕ → List (List ℕ) → Tree → Metal
via_metal nm names t = Via (place_index (unwrap_or (stack_place names t) 0)) (unwrap_or (via_place nm t) origin)

unfoldable pub via_refusals : ℕ → List Stack → List (List ℕ) → Tree → List Refusal
via_refusals nm stacks names t =
    unknown_stack names t ++ (via_place_refusals nm t ++ past_refusal stacks (stack_place names t) (via_place nm t) t)
