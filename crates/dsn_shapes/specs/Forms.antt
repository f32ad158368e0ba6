-- The forms of a shape, their numbers and their vertices.
use Rattle.std.specs.Prelude.{◌*◌, ◌==◌, ◌&&◌, ◌||◌, ◌+◌, ◌-◌, ◌%◌, nat_le, nat_lt, ℕ, ℤ, pos, Bool, false}
use Rattle.std.specs.Prelude.{◌++◌, Option, Some, None, codes, length, take, drop, map, slice_get, unwrap_or}
use Rattle.std.specs.Prelude.{List, [], ◌∷◌, if◌then◌else◌}
use Rattle.std.specs.Ordering.{int_eq}
use Rattle.std.specs.List.{flat_map}
use Rattle.dsn_tree.specs.declared.tree.Tree.{Tree}
use Rattle.dsn_tree.specs.Heads.{is_headed}
use Rattle.geo_kernel.specs.declared.point.Point.{Point}
use Rattle.dsn_shapes.specs.declared.parts.Layer.{Layer}
use Rattle.dsn_shapes.specs.declared.form.Form.{Form}
use Rattle.dsn_shapes.specs.declared.form.Form.TheVariants.{Circle, Rect, Polygon, Path}
use Rattle.dsn_shapes.specs.declared.form.Outline.{Outline}
use Rattle.dsn_shapes.specs.declared.refusal.Refusal.{Refusal}
use Rattle.dsn_shapes.specs.declared.refusal.What.TheVariants.{Vertices}
use Rattle.dsn_shapes.specs.Refusals.{refused}
use Rattle.dsn_shapes.specs.Lists.{at_of, words_of, name_of, place_of}
use Rattle.dsn_shapes.specs.Numbers.{word_coord, word_coord_refusal, extent_at, extent_refusal}
use Rattle.dsn_shapes.specs.Layers.{layers_of, layer_refusal}
use Rattle.dsn_shapes.specs.Limits.{past_limit}
use Rattle.dsn_shapes.specs.declared.table.TheConstants.{BAD_FORM}
use Rattle.pcb_model.specs.declared.limits.TheConstants.{MOST_VERTICES}

-- ---- the numbers of a form
abbrev pub form_of : Tree → Option Form
form_of t =
    if is_headed (codes "circle") t then Some Circle else
    (if is_headed (codes "rect") t then Some Rect else
    (if is_headed (codes "polygon") t then Some Polygon else
    (if is_headed (codes "path") t then Some Path else
    None)))

-- how many words it may have: its head, its layer and its numbers
abbrev pub has_count : Form → ℕ → Bool
has_count Circle n = n == 3 || n == 5
has_count Rect n = n == 6
has_count Polygon n = nat_le 5 n && n % 2 == 1
has_count Path n = nat_le 5 n && n % 2 == 1

-- a rect has no width; the others have theirs in word 2, and their coordinates behind it
abbrev pub first_coord : Form → ℕ
first_coord Circle = 3
first_coord Rect = 2
first_coord Polygon = 3
first_coord Path = 3

abbrev pub width_of : ℕ → Form → Tree → ℕ
width_of nm Circle t = extent_at nm t 2
width_of nm Rect t = 0
width_of nm Polygon t = extent_at nm t 2
width_of nm Path t = extent_at nm t 2

abbrev pub width_refusal : ℕ → Form → Tree → List Refusal
width_refusal nm Circle t = extent_refusal nm t 2
width_refusal nm Rect t = []
width_refusal nm Polygon t = extent_refusal nm t 2
width_refusal nm Path t = extent_refusal nm t 2

abbrev pub coord_words : Form → Tree → List Tree
coord_words form t = drop (first_coord form) (words_of t)

-- the coordinates of its vertices: a circle without a centre has the origin, and a rect two further corners
abbrev pub vertices_of : Form → List (Option ℤ) → List (Option ℤ)
vertices_of Circle [] = Some (pos 0) ∷ Some (pos 0) ∷ []
vertices_of Circle (x ∷ cs) = x ∷ cs
vertices_of Rect (x1 ∷ y1 ∷ x2 ∷ y2 ∷ []) = x1 ∷ y1 ∷ x2 ∷ y1 ∷ x2 ∷ y2 ∷ x1 ∷ y2 ∷ []
vertices_of Rect cs = cs
vertices_of Polygon cs = cs
vertices_of Path cs = cs

-- what a form says: its layers, its width and its vertices' coordinates; nothing where its count of words is wrong
unfoldable pub outline_of : ℕ → List Layer → Form → Tree → Outline
outline_of nm layers form t = if has_count form (length (words_of t))
    then record {
      layers = layers_of layers (name_of t 1);
      width = width_of nm form t;
      coords = vertices_of form (map (word_coord nm) (coord_words form t));
    }
    else record { layers = 0; width = 0; coords = [] }

-- a wrong count of words is refused alone
unfoldable pub outline_refusals : ℕ → List Layer → Form → Tree → List Refusal
outline_refusals nm layers form t = if has_count form (length (words_of t))
    then layer_refusal layers t ++ (width_refusal nm form t ++ flat_map (word_coord_refusal nm) (coord_words form t))
    else refused BAD_FORM (at_of t) ∷ []

-- ---- vertices
-- the numbers two by two; a number that is refused counts as 0
abbrev pub points_of : List (Option ℤ) → List Point
points_of [] = []
points_of (x ∷ []) = []
points_of (x ∷ y ∷ cs) = record { x = unwrap_or x (pos 0); y = unwrap_or y (pos 0) } ∷ points_of cs

-- the same number twice
abbrev pub is_same : Option ℤ → Option ℤ → Bool
is_same None b = false
is_same (Some a) None = false
is_same (Some a) (Some b) = int_eq a b

abbrev pub nth_coord : List (Option ℤ) → ℕ → Option ℤ
nth_coord cs i = unwrap_or (slice_get cs i) None

-- the last vertex is another than the first and equal to it
abbrev pub is_closed : List (Option ℤ) → Bool
is_closed cs =
    nat_le 4 (length cs)
    && (is_same (nth_coord cs 0) (nth_coord cs (length cs - 2))
    && is_same (nth_coord cs 1) (nth_coord cs (length cs - 1)))

-- a loop loses such a vertex
unfoldable pub ring_of : List (Option ℤ) → List (Option ℤ)
ring_of cs = if is_closed cs then take (length cs - 2) cs else cs

-- more vertices than a shape may have are refused at the first that is too many
abbrev pub vertex_limit : Form → Tree → ℕ → List Refusal
vertex_limit form t count = if nat_lt MOST_VERTICES count
    then past_limit Vertices (place_of t (first_coord form + 2 * MOST_VERTICES)) ∷ [] else []

abbrev pub ring_refusals : Form → Tree → ℕ → List Refusal
ring_refusals form t count =
    (if nat_lt count 3 then refused BAD_FORM (at_of t) ∷ [] else []) ++ vertex_limit form t count
