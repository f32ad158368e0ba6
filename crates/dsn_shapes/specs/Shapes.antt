-- Shapes: a form read as it stands or as a loop, the form that stands in a list, keepouts and boundaries.
use Rattle.std.specs.Prelude.{◌==◌, slice_get, ◌||◌, ◌&&◌, ◌+◌, ◌-◌, max, ℕ, Bool, true, false, not, List, [], ◌∷◌}
use Rattle.std.specs.Prelude.{◌++◌, Option, codes, length, map, filter, fold, count_by, sum_by, if◌then◌else◌}
use Rattle.std.specs.List.{flat_map, find}
use Rattle.std.specs.Option.{option_map_or}
use Rattle.dsn_tree.specs.declared.tree.Tree.{Tree}
use Rattle.dsn_tree.specs.Heads.{is_headed, items_of}
use Rattle.geo_kernel.specs.declared.spine.Spine.{Spine}
use Rattle.geo_kernel.specs.declared.spine.Spine.TheVariants.{Chain, Area}
use Rattle.dsn_shapes.specs.declared.parts.Layer.{Layer}
use Rattle.dsn_shapes.specs.declared.parts.LayerShape.{LayerShape}
use Rattle.dsn_shapes.specs.declared.parts.BanShape.{BanShape}
use Rattle.dsn_shapes.specs.declared.form.Form.{Form}
use Rattle.dsn_shapes.specs.declared.form.Form.TheVariants.{Circle, Rect, Polygon, Path}
use Rattle.dsn_shapes.specs.declared.form.Outline.{Outline}
use Rattle.dsn_shapes.specs.declared.shape.Rim.{Rim}
use Rattle.dsn_shapes.specs.declared.refusal.Refusal.{Refusal}
use Rattle.dsn_shapes.specs.Known.{form_heads}
use Rattle.dsn_shapes.specs.Refusals.{refused}
use Rattle.dsn_shapes.specs.Lists.{at_of, is_word, place_of, has_head}
use Rattle.dsn_shapes.specs.Forms.{form_of, outline_of, outline_refusals, points_of, ring_of, ring_refusals}
use Rattle.dsn_shapes.specs.Forms.{vertex_limit}
use Rattle.dsn_shapes.specs.declared.table.TheConstants.{BAD_FORM, LEFT_OUT}

-- ---- one form
-- a list that is no form: two are left out by name
abbrev pub no_form : Tree → List Refusal
no_form t = if is_headed (codes "qarc") t || is_headed (codes "polyline_path") t
    then refused LEFT_OUT (place_of t 0) ∷ []
    else refused BAD_FORM (at_of t) ∷ []

-- the vertices of a form as it stands
abbrev pub spine_of : Form → Outline → Spine
spine_of Circle o = Chain (points_of o.coords)
spine_of Rect o = Area (points_of (ring_of o.coords) ∷ [])
spine_of Polygon o = Area (points_of (ring_of o.coords) ∷ [])
spine_of Path o = Chain (points_of o.coords)

abbrev pub spine_refusals : Form → Tree → Outline → List Refusal
spine_refusals Circle t o = []
spine_refusals Rect t o = ring_refusals Rect t (length (points_of (ring_of o.coords)))
spine_refusals Polygon t o = ring_refusals Polygon t (length (points_of (ring_of o.coords)))
spine_refusals Path t o = vertex_limit Path t (length (points_of o.coords))

abbrev pub shaped : Form → Outline → LayerShape
shaped form o = record { layers = o.layers; spine = spine_of form o; width = o.width }

abbrev pub empty_shape : LayerShape
empty_shape = record { layers = 0; spine = Chain []; width = 0 }

-- a form as it stands
unfoldable pub shape_of : ℕ → List Layer → Tree → LayerShape
shape_of nm layers t = option_map_or (λ form. shaped form (outline_of nm layers form t)) (form_of t) empty_shape

unfoldable pub shape_refusals : ℕ → List Layer → Tree → List Refusal
shape_refusals nm layers t =
    option_map_or (λ form. outline_refusals nm layers form t ++ spine_refusals form t (outline_of nm layers form t))
    (form_of t) (no_form t)

-- a form as a loop of an area, which a circle is not
abbrev pub rim : Outline → Rim
rim o = record { layers = o.layers; points = points_of (ring_of o.coords); width = o.width }

abbrev pub empty_rim : Rim
empty_rim = record { layers = 0; points = []; width = 0 }

abbrev pub is_circle : Form → Bool
is_circle Circle = true
is_circle Rect = false
is_circle Polygon = false
is_circle Path = false

abbrev pub rim_of : ℕ → List Layer → Form → Tree → Rim
rim_of nm layers form t = if is_circle form then empty_rim else rim (outline_of nm layers form t)

abbrev pub rim_refusals : ℕ → List Layer → Form → Tree → List Refusal
rim_refusals nm layers form t = if is_circle form then refused BAD_FORM (at_of t) ∷ []
    else outline_refusals nm layers form t
    ++ ring_refusals form t (length (points_of (ring_of (outline_of nm layers form t).coords)))

unfoldable pub loop_of : ℕ → List Layer → Tree → Rim
loop_of nm layers t = option_map_or (λ form. rim_of nm layers form t) (form_of t) empty_rim

unfoldable pub loop_refusals : ℕ → List Layer → Tree → List Refusal
loop_refusals nm layers t = option_map_or (λ form. rim_refusals nm layers form t) (form_of t) (no_form t)

-- loops of one area: the layers are those of the first, and the width is the greatest
abbrev pub first_layers : List Rim → ℕ
first_layers rs = option_map_or (λ (r : Rim). r.layers) (slice_get rs 0) 0

unfoldable pub area_of : List Rim → LayerShape
area_of rs =
    record {
      layers = first_layers rs;
      spine = Area (map (λ (r : Rim). r.points) rs);
      width = fold (λ w (r : Rim). max w r.width) 0 rs;
    }

-- ---- forms that stand in a list
-- the form in a list is the first, and where there is none the list is refused
abbrev pub form_in : Tree → Option Tree
form_in t = find (has_head form_heads) (items_of t)

unfoldable pub refusals_in : (Tree → List Refusal) → Tree → List Refusal
refusals_in refusals t = option_map_or refusals (form_in t) (refused BAD_FORM (at_of t) ∷ [])

-- the shape of a list such as `(shape (circle F.Cu 1000))`
unfoldable pub held_shape : ℕ → List Layer → Tree → LayerShape
held_shape nm layers t = option_map_or (shape_of nm layers) (form_in t) empty_shape

unfoldable pub held_loop : ℕ → List Layer → Tree → Rim
held_loop nm layers t = option_map_or (loop_of nm layers) (form_in t) empty_rim

-- every other list in it is passed over
abbrev pub notes_beside : Tree → ℕ
notes_beside t = count_by (λ i. not (is_word i)) (items_of t) - 1

-- ---- keepouts and boundaries
abbrev pub windows_of : Tree → List Tree
windows_of t = filter (is_headed (codes "window")) (items_of t)

-- a keepout with windows is one area: its own loop and those of its windows
unfoldable pub ban_shape : ℕ → List Layer → Tree → LayerShape
ban_shape nm layers t = if length (windows_of t) == 0 then held_shape nm layers t
    else area_of (map (held_loop nm layers) (t ∷ windows_of t))

unfoldable pub ban_refusals : ℕ → List Layer → Tree → List Refusal
ban_refusals nm layers t = if length (windows_of t) == 0 then refusals_in (shape_refusals nm layers) t
    else flat_map (refusals_in (loop_refusals nm layers)) (t ∷ windows_of t)

-- a `keepout` bans wires and vias, the other two one of them
unfoldable pub ban_of : ℕ → List Layer → Tree → BanShape
ban_of nm layers t =
    record {
      shape = ban_shape nm layers t;
      wires = not (is_headed (codes "via_keepout") t);
      vias = not (is_headed (codes "wire_keepout") t);
    }

-- the other lists in a keepout and in its windows are passed over
abbrev pub is_beside : Tree → Bool
is_beside t = not (is_word t) && not (is_headed (codes "window") t)

unfoldable pub ban_notes : Tree → ℕ
ban_notes t = (count_by is_beside (items_of t) - 1) + sum_by notes_beside (windows_of t)

-- the forms in a boundary; its other lists are passed over in silence
abbrev pub bound_forms : Tree → List Tree
bound_forms t = filter (has_head form_heads) (items_of t)

unfoldable pub bound_of : ℕ → List Layer → Tree → LayerShape
bound_of nm layers t = area_of (map (loop_of nm layers) (bound_forms t))

unfoldable pub bound_refusals : ℕ → List Layer → Tree → List Refusal
bound_refusals nm layers t = (if length (bound_forms t) == 0 then refused BAD_FORM (at_of t) ∷ [] else [])
    ++ flat_map (loop_refusals nm layers) (bound_forms t)
