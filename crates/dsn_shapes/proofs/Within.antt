-- Coordinates, vertices and angles that are read are within bounds, whatever the text.
use Rattle.std.proofs.Common.{◌≡◌, ◌<◌, ◌≤◌, ◌*◌, ◌-◌, ◌^◌, ℕ, ℤ, Bool, true, false, cond, pos, negsuc, List, [], ◌∷◌}
use Rattle.std.proofs.Common.{Option, Some, None, length, take, map, refl, arith}
use Rattle.std.specs.Prelude.{◌==◌, All, IfSome, unsigned_abs, unwrap_or, nat_le}
use Rattle.std.specs.Int.{int_rem_euclid}
use Rattle.std.specs.Option.{option_map_or}
use Rattle.std.proofs.lemmas.Bool.{leb-true}
use Rattle.std.proofs.lemmas.List.Elements.{All-nil, All-cons, All-head, All-tail, All-take, All-map}
use Rattle.geo_kernel.specs.declared.point.Point.{Point}
use Rattle.geo_kernel.specs.Plane.{IsWithin}
use Rattle.geo_kernel.specs.Spine.{IsSpineWithin}
use Rattle.dsn_tree.specs.declared.tree.Tree.{Tree}
use Rattle.dsn_units.specs.declared.angle.Angle.{Angle}
use Rattle.dsn_units.specs.declared.number.Decimal.{Decimal}
use Rattle.dsn_units.specs.Length.{angle_of, bottom, coord_of, rounded, top}
use Rattle.dsn_units.specs.Reading.{decimal_of}
use Rattle.dsn_shapes.specs.declared.form.Form.{Form}
use Rattle.dsn_shapes.specs.declared.form.Form.TheVariants.{Circle, Rect, Polygon, Path}
use Rattle.dsn_shapes.specs.declared.form.Outline.{Outline}
use Rattle.dsn_shapes.specs.declared.shape.Rim.{Rim}
use Rattle.dsn_shapes.specs.declared.parts.Layer.{Layer}
use Rattle.dsn_shapes.specs.declared.parts.LayerShape.{LayerShape}
use Rattle.dsn_shapes.specs.Lists.{name_of, nth_word, text_of, words_of}
use Rattle.dsn_shapes.specs.Numbers.{coord_at, number_by, word_coord}
use Rattle.dsn_shapes.specs.Angles.{word_angle}
use Rattle.dsn_shapes.specs.Layers.{layers_of}
use Rattle.dsn_shapes.specs.Forms.{coord_words, form_of, has_count, is_closed, outline_of, points_of, ring_of}
use Rattle.dsn_shapes.specs.Forms.{vertices_of, width_of}
use Rattle.dsn_shapes.specs.Shapes.{area_of, ban_of, ban_shape, bound_forms, bound_of, empty_rim, empty_shape, form_in}
use Rattle.dsn_shapes.specs.Shapes.{held_loop, held_shape, is_circle, loop_of, rim, rim_of, shape_of, shaped, spine_of}
use Rattle.dsn_shapes.specs.Shapes.{windows_of}

-- ---- coordinates
abbrev pub IsNear : ℤ → Type 0
IsNear x = unsigned_abs x ≤ 2 ^ 29

-- a number that is read is near
abbrev pub IsNearIfRead : Option ℤ → Type 0
IsNearIfRead o = IfSome o IsNear

near_if : (b : Bool) (x : ℤ) → (b ≡ true → IsNear x) → IsNearIfRead (cond b (Some x) None)
near_if true x h = h refl
near_if false x h = tt

coord_near : (d : Decimal) (nm : ℕ) → IsNearIfRead (coord_of d nm)
coord_near d nm = near_if (nat_le (unsigned_abs (rounded d nm)) (2 ^ 29)) (rounded d nm) (λ e. leb-true _ _ e)

number_near : (nm : ℕ) (o : Option Decimal) → IsNearIfRead (number_by (λ d. coord_of d nm) o)
number_near nm None = tt
number_near nm (Some d) = coord_near d nm

pub word_near : (nm : ℕ) (w : Tree) → IsNearIfRead (word_coord nm w)
word_near nm w = number_near nm (decimal_of (text_of w))

pub wanted_near : (nm : ℕ) (o : Option Tree) → IsNearIfRead (option_map_or (word_coord nm) o None)
wanted_near nm None = tt
wanted_near nm (Some w) = word_near nm w

-- one that is refused counts as 0
pub or_zero : (o : Option ℤ) → IsNearIfRead o → IsNear (unwrap_or o (pos 0))
or_zero None h = omega arith
or_zero (Some x) h = h

pub coord_at_near : (nm : ℕ) (t : Tree) (i : ℕ) → IsNear (coord_at nm t i)
coord_at_near nm t i = or_zero (option_map_or (word_coord nm) (nth_word t i) None) (wanted_near nm (nth_word t i))

-- ---- angles
abbrev pub IsReduced : Angle → Type 0
IsReduced a = a.microdegrees < 360000000

rest_small : (z : ℤ) → unsigned_abs (int_rem_euclid z (pos 360000000)) < 360000000
rest_small (pos n) = omega arith
rest_small (negsuc n) = omega arith

reduced_if : (b : Bool) (a : Angle) → IsReduced a → IfSome (cond b (Some a) None) IsReduced
reduced_if true a h = h
reduced_if false a h = tt

angle_reduced : (d : Decimal) → IfSome (angle_of d) IsReduced
angle_reduced d =
    reduced_if (nat_le (top d 1000000) (1000000000000 * bottom d))
    (record { microdegrees = unsigned_abs (int_rem_euclid (rounded d 1000000) (pos 360000000)) })
    (rest_small (rounded d 1000000))

number_reduced : (o : Option Decimal) → IfSome (number_by angle_of o) IsReduced
number_reduced None = tt
number_reduced (Some d) = angle_reduced d

pub word_reduced : (w : Tree) → IfSome (word_angle w) IsReduced
word_reduced w = number_reduced (decimal_of (text_of w))

-- ---- vertices
abbrev AreNear : List (Option ℤ) → Type 0
AreNear cs = All IsNearIfRead cs

points_near : (cs : List (Option ℤ)) → AreNear cs → All (IsWithin (2 ^ 29)) (points_of cs)
points_near [] h = All-nil (IsWithin (2 ^ 29))
points_near (x ∷ []) h = All-nil (IsWithin (2 ^ 29))
points_near (x ∷ y ∷ cs) h =
    let rest = All-tail IsNearIfRead x (y ∷ cs) h in
    All-cons (IsWithin (2 ^ 29)) (record { x = unwrap_or x (pos 0); y = unwrap_or y (pos 0) }) (points_of cs)
    (or_zero x (All-head IsNearIfRead x (y ∷ cs) h), or_zero y (All-head IsNearIfRead y cs rest))
    (points_near cs (All-tail IsNearIfRead y cs rest))

zero_near : IsNearIfRead (Some (pos 0))
zero_near = omega arith

two_near : (x y : Option ℤ) (cs : List (Option ℤ)) → IsNearIfRead x → IsNearIfRead y → AreNear cs → AreNear (x ∷ y ∷ cs)
two_near x y cs h k r = All-cons IsNearIfRead x (y ∷ cs) h (All-cons IsNearIfRead y cs k r)

-- the corners of a rect
corners_near : (a b c d : Option ℤ) → AreNear (a ∷ b ∷ c ∷ d ∷ []) → AreNear (a ∷ b ∷ c ∷ b ∷ c ∷ d ∷ a ∷ d ∷ [])
corners_near a b c d h =
    let t1 = All-tail IsNearIfRead a (b ∷ c ∷ d ∷ []) h in
    let t2 = All-tail IsNearIfRead b (c ∷ d ∷ []) t1 in
    let t3 = All-tail IsNearIfRead c (d ∷ []) t2 in
    let na = All-head IsNearIfRead a (b ∷ c ∷ d ∷ []) h in
    let nb = All-head IsNearIfRead b (c ∷ d ∷ []) t1 in
    let nc = All-head IsNearIfRead c (d ∷ []) t2 in
    let nd = All-head IsNearIfRead d [] t3 in
    two_near a b (c ∷ b ∷ c ∷ d ∷ a ∷ d ∷ []) na nb
    (two_near c b (c ∷ d ∷ a ∷ d ∷ []) nc nb
    (two_near c d (a ∷ d ∷ []) nc nd (two_near a d [] na nd (All-nil IsNearIfRead))))

vertices_near : (form : Form) (cs : List (Option ℤ)) → AreNear cs → AreNear (vertices_of form cs)
vertices_near Circle [] h = two_near (Some (pos 0)) (Some (pos 0)) [] zero_near zero_near (All-nil IsNearIfRead)
vertices_near Circle (x ∷ cs) h = h
vertices_near Rect [] h = h
vertices_near Rect (a ∷ []) h = h
vertices_near Rect (a ∷ b ∷ []) h = h
vertices_near Rect (a ∷ b ∷ c ∷ []) h = h
vertices_near Rect (a ∷ b ∷ c ∷ d ∷ []) h = corners_near a b c d h
vertices_near Rect (a ∷ b ∷ c ∷ d ∷ e ∷ cs) h = h
vertices_near Polygon cs h = h
vertices_near Path cs h = h

ring_if : (b : Bool) (n : ℕ) (cs : List (Option ℤ)) → AreNear cs → AreNear (cond b (take n cs) cs)
ring_if true n cs h = All-take IsNearIfRead n cs h
ring_if false n cs h = h

ring_near : (cs : List (Option ℤ)) → AreNear cs → AreNear (ring_of cs)
unfolding ring_of
ring_near cs h = ring_if (is_closed cs) (length cs - 2) cs h

-- ---- forms
abbrev HasNear : Outline → Type 0
HasNear o = AreNear o.coords

outline_if : (b : Bool) (o p : Outline) → HasNear o → HasNear p → HasNear (cond b o p)
outline_if true o p h k = h
outline_if false o p h k = k

outline_near : (nm : ℕ) (layers : List Layer) (form : Form) (t : Tree) → HasNear (outline_of nm layers form t)
unfolding outline_of
outline_near nm layers form t =
    let read : Outline =
    record {
      layers = layers_of layers (name_of t 1);
      width = width_of nm form t;
      coords = vertices_of form (map (word_coord nm) (coord_words form t));
    } in
    let none : Outline = record { layers = 0; width = 0; coords = [] } in
    outline_if (has_count form (length (words_of t))) read none
    (vertices_near form (map (word_coord nm) (coord_words form t))
    (All-map IsNearIfRead (word_coord nm) (coord_words form t) (λ k d l. word_near nm _))) (All-nil IsNearIfRead)

loop_near : (ps : List Point) → All (IsWithin (2 ^ 29)) ps → All (All (IsWithin (2 ^ 29))) (ps ∷ [])
loop_near ps h = All-cons (All (IsWithin (2 ^ 29))) ps [] h (All-nil (All (IsWithin (2 ^ 29))))

spine_near : (form : Form) (o : Outline) → HasNear o → IsSpineWithin (2 ^ 29) (spine_of form o)
spine_near Circle o h = points_near o.coords h
spine_near Rect o h = loop_near (points_of (ring_of o.coords)) (points_near (ring_of o.coords) (ring_near o.coords h))
spine_near Polygon o h =
    loop_near (points_of (ring_of o.coords)) (points_near (ring_of o.coords) (ring_near o.coords h))
spine_near Path o h = points_near o.coords h

-- ---- shapes
abbrev pub IsShapeNear : LayerShape → Type 0
IsShapeNear s = IsSpineWithin (2 ^ 29) s.spine

empty_near : IsShapeNear empty_shape
empty_near = All-nil (IsWithin (2 ^ 29))

shape_at : (nm : ℕ) (layers : List Layer) (t : Tree) (o : Option Form)
    → IsShapeNear (option_map_or (λ form. shaped form (outline_of nm layers form t)) o empty_shape)
shape_at nm layers t None = empty_near
shape_at nm layers t (Some form) = spine_near form (outline_of nm layers form t) (outline_near nm layers form t)

pub shape_near : (nm : ℕ) (layers : List Layer) (t : Tree) → IsShapeNear (shape_of nm layers t)
unfolding shape_of
shape_near nm layers t = shape_at nm layers t (form_of t)

held_at : (nm : ℕ) (layers : List Layer) (o : Option Tree)
    → IsShapeNear (option_map_or (shape_of nm layers) o empty_shape)
held_at nm layers None = empty_near
held_at nm layers (Some t) = shape_near nm layers t

pub held_near : (nm : ℕ) (layers : List Layer) (t : Tree) → IsShapeNear (held_shape nm layers t)
unfolding held_shape
held_near nm layers t = held_at nm layers (form_in t)

-- ---- loops of areas
abbrev IsRimNear : Rim → Type 0
IsRimNear r = All (IsWithin (2 ^ 29)) r.points

rim_if : (b : Bool) (r s : Rim) → IsRimNear r → IsRimNear s → IsRimNear (cond b r s)
rim_if true r s h k = h
rim_if false r s h k = k

no_rim_near : IsRimNear empty_rim
no_rim_near = All-nil (IsWithin (2 ^ 29))

rim_near : (nm : ℕ) (layers : List Layer) (form : Form) (t : Tree) → IsRimNear (rim_of nm layers form t)
rim_near nm layers form t =
    let o = outline_of nm layers form t in
    rim_if (is_circle form) empty_rim (rim o) no_rim_near
    (points_near (ring_of o.coords) (ring_near o.coords (outline_near nm layers form t)))

rim_at : (nm : ℕ) (layers : List Layer) (t : Tree) (o : Option Form)
    → IsRimNear (option_map_or (λ form. rim_of nm layers form t) o empty_rim)
rim_at nm layers t None = no_rim_near
rim_at nm layers t (Some form) = rim_near nm layers form t

loop_is_near : (nm : ℕ) (layers : List Layer) (t : Tree) → IsRimNear (loop_of nm layers t)
unfolding loop_of
loop_is_near nm layers t = rim_at nm layers t (form_of t)

held_loop_at : (nm : ℕ) (layers : List Layer) (o : Option Tree)
    → IsRimNear (option_map_or (loop_of nm layers) o empty_rim)
held_loop_at nm layers None = no_rim_near
held_loop_at nm layers (Some t) = loop_is_near nm layers t

held_loop_near : (nm : ℕ) (layers : List Layer) (t : Tree) → IsRimNear (held_loop nm layers t)
unfolding held_loop
held_loop_near nm layers t = held_loop_at nm layers (form_in t)

area_near : (rs : List Rim) → All IsRimNear rs → IsShapeNear (area_of rs)
unfolding area_of
area_near rs h = All-map (All (IsWithin (2 ^ 29))) (λ (r : Rim). r.points) rs h

-- ---- keepouts
shape_if : (b : Bool) (s t : LayerShape) → IsShapeNear s → IsShapeNear t → IsShapeNear (cond b s t)
shape_if true s t h k = h
shape_if false s t h k = k

pub ban_near : (nm : ℕ) (layers : List Layer) (t : Tree) → IsShapeNear (ban_of nm layers t).shape
unfolding ban_of ban_shape
ban_near nm layers t =
    shape_if (length (windows_of t) == 0) (held_shape nm layers t)
    (area_of (map (held_loop nm layers) (t ∷ windows_of t))) (held_near nm layers t)
    (area_near (map (held_loop nm layers) (t ∷ windows_of t))
    (All-map IsRimNear (held_loop nm layers) (t ∷ windows_of t) (λ k d l. held_loop_near nm layers _)))

-- ---- boundaries
pub bound_near : (nm : ℕ) (layers : List Layer) (t : Tree) → IsShapeNear (bound_of nm layers t)
unfolding bound_of
bound_near nm layers t =
    area_near (map (loop_of nm layers) (bound_forms t))
    (All-map IsRimNear (loop_of nm layers) (bound_forms t) (λ k d l. loop_is_near nm layers _))
