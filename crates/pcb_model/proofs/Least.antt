-- Least boxes and extents: what they hold, and what they are of one more piece.
use Rattle.std.proofs.Common.{◌≡◌, ℕ, ℤ, pos, ◌≤◌, ◌<◌, ◌+◌, ◌^◌, max, min, List, [], ◌∷◌, ◌++◌, length, map, take}
use Rattle.std.proofs.Common.{All, Any, get_or, refl, sym, ap, ◌∙◌, subst, arith}
use Rattle.std.specs.Prelude.{neg_ℤ, ◌+ℤ◌, ◌≤ℤ◌, unsigned_abs}
use Rattle.std.specs.Int.{int_min, int_max}
use Rattle.std.proofs.lemmas.Int.{ints, clamps}
use Rattle.std.proofs.lemmas.List.{take_more, append-nil, map-append}
use Rattle.std.proofs.lemmas.List.Concat.{flat_map-append}
use Rattle.std.proofs.lemmas.List.Elements.{All-cons, All-nil, All-head, All-tail, All-append, All-weaker}
use Rattle.geo_kernel.specs.declared.point.Point.{Point}
use Rattle.geo_kernel.specs.declared.point.Rect4.{Rect4}
use Rattle.geo_kernel.specs.declared.spine.Spine.{Spine}
use Rattle.geo_kernel.specs.Plane.{IsWithin}
use Rattle.geo_kernel.specs.Boxes.{IsIn, IsBoxOf}
use Rattle.geo_kernel.specs.Moved.{moved, moved_spine}
use Rattle.geo_kernel.specs.Spine.{vertices, IsSpineWithin}
use Rattle.geo_kernel.proofs.Growing.{box_is_of}
use Rattle.pcb_model.specs.declared.item.Piece.{Piece}
use Rattle.pcb_model.specs.declared.near.Extent.{Extent}
use Rattle.pcb_model.specs.Bounds.{IsFit}
use Rattle.pcb_model.specs.Pieces.{wire_piece}
use Rattle.pcb_model.specs.Near.{least, greatest, box_of_points, vertices_of, greatest_width, first_layer, last_layer}
use Rattle.pcb_model.specs.Near.{extent_of, IsBoxWithin, moved_box_by}
use Rattle.pcb_model.proofs.Probes.{Any-map}
use Rattle.pcb_model.proofs.Extents.{vertices_within, vertices_moved, spine_moved}

-- ---- the least and the greatest value
least_edge : (f : Point → ℤ) (ps : List Point) → least f ps ≤ℤ pos (2 ^ 29)
least_edge f [] = omega (arith, ints)
least_edge f (p ∷ ps) = let r = least_edge f ps in omega (arith, ints, clamps)

greatest_edge : (f : Point → ℤ) (ps : List Point) → neg_ℤ (pos (2 ^ 29)) ≤ℤ greatest f ps
greatest_edge f [] = omega (arith, ints)
greatest_edge f (p ∷ ps) = let r = greatest_edge f ps in omega (arith, ints, clamps)

pub least_in : (f : Point → ℤ) (ps : List Point) → All (λ p. least f ps ≤ℤ f p) ps
least_in f [] = All-nil (λ p. least f [] ≤ℤ f p)
least_in f (p ∷ ps) =
    let P : Point → Type 0 = λ q. least f (p ∷ ps) ≤ℤ f q in
    All-cons P p ps (omega (arith, ints, clamps))
    (All-weaker (λ q. least f ps ≤ℤ f q) P (λ q h. omega (arith, ints, clamps)) ps (least_in f ps))

pub greatest_in : (f : Point → ℤ) (ps : List Point) → All (λ p. f p ≤ℤ greatest f ps) ps
greatest_in f [] = All-nil (λ p. f p ≤ℤ greatest f [])
greatest_in f (p ∷ ps) =
    let P : Point → Type 0 = λ q. f q ≤ℤ greatest f (p ∷ ps) in
    All-cons P p ps (omega (arith, ints, clamps))
    (All-weaker (λ q. f q ≤ℤ greatest f ps) P (λ q h. omega (arith, ints, clamps)) ps (greatest_in f ps))

pub least_from : (f : Point → ℤ) (m : ℤ) (ps : List Point) → m ≤ℤ pos (2 ^ 29) → All (λ p. m ≤ℤ f p) ps
    → m ≤ℤ least f ps
least_from f m [] e h = e
least_from f m (p ∷ ps) e h =
    let r = least_from f m ps e (All-tail (λ q. m ≤ℤ f q) p ps h) in
    let s = All-head (λ q. m ≤ℤ f q) p ps h in
    omega (arith, ints, clamps)

pub greatest_to : (f : Point → ℤ) (m : ℤ) (ps : List Point) → neg_ℤ (pos (2 ^ 29)) ≤ℤ m → All (λ p. f p ≤ℤ m) ps
    → greatest f ps ≤ℤ m
greatest_to f m [] e h = e
greatest_to f m (p ∷ ps) e h =
    let r = greatest_to f m ps e (All-tail (λ q. f q ≤ℤ m) p ps h) in
    let s = All-head (λ q. f q ≤ℤ m) p ps h in
    omega (arith, ints, clamps)

least_is : (f : Point → ℤ) (z : ℤ) (ps : List Point) → All (λ p. z ≤ℤ f p) ps → Any (λ p. f p ≡ z) ps
    → All (λ p. f p ≤ℤ pos (2 ^ 29)) ps → z ≡ least f ps
least_is f z ps low (k, p, l, e, h) edge =
    let here : least f ps ≤ℤ f (get_or ps k p) = least_in f ps k p l in
    let near : f (get_or ps k p) ≤ℤ pos (2 ^ 29) = edge k p l in
    let at : f (get_or ps k p) ≡ z = ap f e ∙ h in
    let up = least_from f z ps (omega (arith, ints, at, near)) low in
    omega (arith, ints, at, here, up)

greatest_is : (f : Point → ℤ) (z : ℤ) (ps : List Point) → All (λ p. f p ≤ℤ z) ps → Any (λ p. f p ≡ z) ps
    → All (λ p. neg_ℤ (pos (2 ^ 29)) ≤ℤ f p) ps → z ≡ greatest f ps
greatest_is f z ps high (k, p, l, e, h) edge =
    let here : f (get_or ps k p) ≤ℤ greatest f ps = greatest_in f ps k p l in
    let near : neg_ℤ (pos (2 ^ 29)) ≤ℤ f (get_or ps k p) = edge k p l in
    let at : f (get_or ps k p) ≡ z = ap f e ∙ h in
    let down = greatest_to f z ps (omega (arith, ints, at, near)) high in
    omega (arith, ints, at, here, down)

least_append : (f : Point → ℤ) (ps qs : List Point) → least f (ps ++ qs) ≡ int_min (least f ps) (least f qs)
least_append f [] qs = let e = least_edge f qs in omega (arith, ints, clamps)
least_append f (p ∷ ps) qs = let e = least_append f ps qs in omega (arith, ints, clamps)

greatest_append : (f : Point → ℤ) (ps qs : List Point) → greatest f (ps ++ qs) ≡ int_max (greatest f ps) (greatest f qs)
greatest_append f [] qs = let e = greatest_edge f qs in omega (arith, ints, clamps)
greatest_append f (p ∷ ps) qs = let e = greatest_append f ps qs in omega (arith, ints, clamps)

-- ---- the box of a spine
x_above : (ps : List Point) → All (IsWithin (2 ^ 29)) ps → All (λ p. p.x ≤ℤ pos (2 ^ 29)) ps
x_above ps h = All-weaker (IsWithin (2 ^ 29)) (λ p. p.x ≤ℤ pos (2 ^ 29)) (λ p k. omega (arith, ints, k.0)) ps h

x_below : (ps : List Point) → All (IsWithin (2 ^ 29)) ps → All (λ p. neg_ℤ (pos (2 ^ 29)) ≤ℤ p.x) ps
x_below ps h = All-weaker (IsWithin (2 ^ 29)) (λ p. neg_ℤ (pos (2 ^ 29)) ≤ℤ p.x) (λ p k. omega (arith, ints, k.0)) ps h

y_above : (ps : List Point) → All (IsWithin (2 ^ 29)) ps → All (λ p. p.y ≤ℤ pos (2 ^ 29)) ps
y_above ps h = All-weaker (IsWithin (2 ^ 29)) (λ p. p.y ≤ℤ pos (2 ^ 29)) (λ p k. omega (arith, ints, k.1)) ps h

y_below : (ps : List Point) → All (IsWithin (2 ^ 29)) ps → All (λ p. neg_ℤ (pos (2 ^ 29)) ≤ℤ p.y) ps
y_below ps h = All-weaker (IsWithin (2 ^ 29)) (λ p. neg_ℤ (pos (2 ^ 29)) ≤ℤ p.y) (λ p k. omega (arith, ints, k.1)) ps h

pub box_is : (s : Spine) (r : Rect4) → IsSpineWithin (2 ^ 29) s → IsBoxOf s r → r ≡ box_of_points (vertices s)
box_is s r w h =
    let ps = vertices s in
    let v = vertices_within (2 ^ 29) s w in
    let a = least_is (λ p. p.x) r.x0 ps (All-weaker (IsIn r) (λ p. r.x0 ≤ℤ p.x) (λ p k. k.left) ps h.within) h.left
    (x_above ps v) in
    let b = least_is (λ p. p.y) r.y0 ps (All-weaker (IsIn r) (λ p. r.y0 ≤ℤ p.y) (λ p k. k.bottom) ps h.within) h.bottom
    (y_above ps v) in
    let c = greatest_is (λ p. p.x) r.x1 ps (All-weaker (IsIn r) (λ p. p.x ≤ℤ r.x1) (λ p k. k.right) ps h.within) h.right
    (x_below ps v) in
    let d = greatest_is (λ p. p.y) r.y1 ps (All-weaker (IsIn r) (λ p. p.y ≤ℤ r.y1) (λ p k. k.top) ps h.within) h.top
    (y_below ps v) in
    box_is_of r.x0 r.y0 r.x1 r.y1 (least (λ p. p.x) ps) (least (λ p. p.y) ps) (greatest (λ p. p.x) ps)
    (greatest (λ p. p.y) ps) a b c d

-- a side that meets a vertex meets the moved one when both are moved
side_moved : (by : Point) (side : Point → ℤ) (z step : ℤ) (s : Spine)
    → ((p : Point) → side (moved by p) ≡ side p +ℤ step)
    → Any (λ p. side p ≡ z) (vertices s) → Any (λ p. side p ≡ z +ℤ step) (vertices (moved_spine by s))
side_moved by side z step s moves (k, p, l, e, h) =
    let P : Point → Type 0 = λ q. side q ≡ z +ℤ step in
    subst (Any P) (sym (vertices_moved by s))
    (Any-map P (moved by) (vertices s) (k, p, l, e, moves p ∙ ap (λ (y : ℤ). y +ℤ step) h))

-- the box of a moved spine is its box, moved
pub moved_box_is : (by : Point) (r : Rect4) (s : Spine) → IsSpineWithin (2 ^ 29) (moved_spine by s) → IsBoxOf s r
    → moved_box_by by r ≡ box_of_points (vertices (moved_spine by s))
moved_box_is by r s w h =
    box_is (moved_spine by s) (moved_box_by by r) w (record {
      within = spine_moved by r s h;
      left = side_moved by (λ p. p.x) r.x0 by.x s (λ p. refl) h.left;
      right = side_moved by (λ p. p.x) r.x1 by.x s (λ p. refl) h.right;
      bottom = side_moved by (λ p. p.y) r.y0 by.y s (λ p. refl) h.bottom;
      top = side_moved by (λ p. p.y) r.y1 by.y s (λ p. refl) h.top;
    })

-- ---- one more piece
width_append : (ps qs : List Piece) → greatest_width (ps ++ qs) ≡ max (greatest_width ps) (greatest_width qs)
width_append [] qs = omega arith
width_append (p ∷ ps) qs = let e = width_append ps qs in omega arith

first_edge : (ps : List Piece) → first_layer ps ≤ 255
first_edge [] = omega arith
first_edge (p ∷ ps) = let e = first_edge ps in omega arith

first_append : (ps qs : List Piece) → first_layer (ps ++ qs) ≡ min (first_layer ps) (first_layer qs)
first_append [] qs = let e = first_edge qs in omega arith
first_append (p ∷ ps) qs = let e = first_append ps qs in omega arith

last_append : (ps qs : List Piece) → last_layer (ps ++ qs) ≡ max (last_layer ps) (last_layer qs)
last_append [] qs = omega arith
last_append (p ∷ ps) qs = let e = last_append ps qs in omega arith

vertices_append : (ps : List Piece) (p : Piece) → vertices_of (ps ++ p ∷ []) ≡ vertices_of ps ++ vertices p.spine
vertices_append ps p =
    flat_map-append (λ (q : Piece). vertices q.spine) ps (p ∷ []) ∙ ap (λ (v : List Point). vertices_of ps ++ v)
    (append-nil (vertices p.spine))

-- an extent joined with that of one piece
pub record IsJoined (o e : Extent) (p : Piece) : Type 0 where
  pub x0 : o.bounds.x0 ≡ int_min e.bounds.x0 (box_of_points (vertices p.spine)).x0
  pub y0 : o.bounds.y0 ≡ int_min e.bounds.y0 (box_of_points (vertices p.spine)).y0
  pub x1 : o.bounds.x1 ≡ int_max e.bounds.x1 (box_of_points (vertices p.spine)).x1
  pub y1 : o.bounds.y1 ≡ int_max e.bounds.y1 (box_of_points (vertices p.spine)).y1
  pub width : o.width ≡ max e.width p.width
  pub first : o.first ≡ min e.first p.layer
  pub last : o.last ≡ max e.last p.layer

extent_is_of : (b c : Rect4) (w v f g l m : ℕ) → b ≡ c → w ≡ v → f ≡ g → l ≡ m
    → (let e : Extent = record { bounds = b; width = w; first = f; last = l } in e)
    ≡ record { bounds = c; width = v; first = g; last = m }
extent_is_of b c w v f g l m h i j k = cc

joined_is : (o : Extent) (ps : List Piece) (p : Piece) → p.layer ≤ 255 → IsJoined o (extent_of ps) p
    → o ≡ extent_of (ps ++ p ∷ [])
joined_is o ps p y h =
    let v = vertices_append ps p in
    let q = vertices p.spine in
    let vs = vertices_of ps in
    let fx : Point → ℤ = λ p. p.x in
    let fy : Point → ℤ = λ p. p.y in
    extent_is_of o.bounds (box_of_points (vertices_of (ps ++ p ∷ []))) o.width (greatest_width (ps ++ p ∷ [])) o.first
    (first_layer (ps ++ p ∷ [])) o.last (last_layer (ps ++ p ∷ []))
    (box_is_of o.bounds.x0 o.bounds.y0 o.bounds.x1 o.bounds.y1 (least fx (vertices_of (ps ++ p ∷ [])))
    (least fy (vertices_of (ps ++ p ∷ []))) (greatest fx (vertices_of (ps ++ p ∷ [])))
    (greatest fy (vertices_of (ps ++ p ∷ [])))
    (h.x0 ∙ sym (ap (least fx) v ∙ least_append fx vs q))
    (h.y0 ∙ sym (ap (least fy) v ∙ least_append fy vs q))
    (h.x1 ∙ sym (ap (greatest fx) v ∙ greatest_append fx vs q))
    (h.y1 ∙ sym (ap (greatest fy) v ∙ greatest_append fy vs q)))
    (h.width ∙ (let e = width_append ps (p ∷ []) in omega (arith, e)))
    (h.first ∙ (let e = first_append ps (p ∷ []) in omega (arith, e)))
    (h.last ∙ (let e = last_append ps (p ∷ []) in omega (arith, e)))

pub extent_more : (o e : Extent) (ps : List Piece) (i : ℕ) (p : Piece) → i < length ps → p ≡ get_or ps i p
    → p.layer ≤ 255 → e ≡ extent_of (take i ps) → IsJoined o e p → o ≡ extent_of (take (i + 1) ps)
extent_more o e ps i p l is y h j =
    let f : Extent → Type 0 = λ x. IsJoined o x p in
    joined_is o (take i ps) p y (subst f h j)
    ∙ sym (ap extent_of (take_more ps i p l ∙ ap (λ (q : Piece). take i ps ++ q ∷ []) (sym is)))

-- the same, of moved pieces
pub extent_more_moved : (f : Piece → Piece) (o e : Extent) (ps : List Piece) (i : ℕ) (p : Piece) → i < length ps
    → p ≡ get_or ps i p → (f p).layer ≤ 255 → e ≡ extent_of (map f (take i ps)) → IsJoined o e (f p)
    → o ≡ extent_of (map f (take (i + 1) ps))
extent_more_moved f o e ps i p l is y h j =
    let F : Extent → Type 0 = λ x. IsJoined o x (f p) in
    let more : take (i + 1) ps ≡ take i ps ++ p ∷ [] =
    take_more ps i p l ∙ ap (λ (q : Piece). take i ps ++ q ∷ []) (sym is) in
    joined_is o (map f (take i ps)) (f p) y (subst F h j)
    ∙ sym (ap extent_of (ap (map f) more ∙ map-append f (take i ps) (p ∷ [])))

-- ---- wires of one or two points
-- the extent of a wire of two points
pub step_extent : (r : Rect4) (layer width : ℕ) (p q : Point) → layer ≤ 255 → IsWithin (2 ^ 29) p → IsWithin (2 ^ 29) q
    → r.x0 ≡ int_min p.x q.x → r.y0 ≡ int_min p.y q.y → r.x1 ≡ int_max p.x q.x → r.y1 ≡ int_max p.y q.y
    → (let e : Extent = record { bounds = r; width = width; first = layer; last = layer } in e)
    ≡ extent_of (wire_piece layer width (p ∷ q ∷ []) ∷ [])
step_extent r layer width p q y a b x0 y0 x1 y1 =
    let vs : List Point = p ∷ q ∷ [] in
    let fx : Point → ℤ = λ v. v.x in
    let fy : Point → ℤ = λ v. v.y in
    extent_is_of r (box_of_points vs) width (max width 0) layer (min layer 255) layer (max layer 0)
    (box_is_of r.x0 r.y0 r.x1 r.y1 (least fx vs) (least fy vs) (greatest fx vs) (greatest fy vs)
    (omega (arith, ints, clamps, x0, a.0, b.0)) (omega (arith, ints, clamps, y0, a.1, b.1))
    (omega (arith, ints, clamps, x1, a.0, b.0)) (omega (arith, ints, clamps, y1, a.1, b.1)))
    (omega arith) (omega (arith, y)) (omega arith)

-- a point that is said twice
pub disc_extent : (layer width : ℕ) (p : Point)
    → extent_of (wire_piece layer width (p ∷ p ∷ []) ∷ []) ≡ extent_of (wire_piece layer width (p ∷ []) ∷ [])
disc_extent layer width p =
    let vs : List Point = p ∷ p ∷ [] in
    let us : List Point = p ∷ [] in
    let fx : Point → ℤ = λ v. v.x in
    let fy : Point → ℤ = λ v. v.y in
    extent_is_of (box_of_points vs) (box_of_points us) (max width 0) (max width 0) (min layer 255) (min layer 255)
    (max layer 0) (max layer 0)
    (box_is_of (least fx vs) (least fy vs) (greatest fx vs) (greatest fy vs) (least fx us) (least fy us)
    (greatest fx us) (greatest fy us)
    (omega (arith, ints, clamps)) (omega (arith, ints, clamps)) (omega (arith, ints, clamps))
    (omega (arith, ints, clamps)))
    refl refl refl

-- ---- what the least extent holds
width_in : (ps : List Piece) → All (λ p. p.width ≤ greatest_width ps) ps
width_in [] = All-nil (λ (p : Piece). p.width ≤ 0)
width_in (p ∷ ps) =
    let P : Piece → Type 0 = λ q. q.width ≤ greatest_width (p ∷ ps) in
    All-cons P p ps (omega arith)
    (All-weaker (λ q. q.width ≤ greatest_width ps) P (λ q h. omega arith) ps (width_in ps))

vertices_fit : (ps : List Piece) → All IsFit ps → All (IsWithin (2 ^ 29)) (vertices_of ps)
vertices_fit [] h = All-nil (IsWithin (2 ^ 29))
vertices_fit (p ∷ ps) h =
    All-append (IsWithin (2 ^ 29)) (vertices p.spine) (vertices_of ps)
    (vertices_within (2 ^ 29) p.spine (All-head IsFit p ps h).within) (vertices_fit ps (All-tail IsFit p ps h))

between : (z : ℤ) → neg_ℤ (pos (2 ^ 29)) ≤ℤ z → z ≤ℤ pos (2 ^ 29) → unsigned_abs z ≤ 2 ^ 29
between z a b = omega (arith, ints, a, b)

-- the box of the least extent is within the bounds
pub extent_within : (ps : List Piece) → All IsFit ps → IsBoxWithin (2 ^ 29) (extent_of ps).bounds
extent_within ps h =
    let vs = vertices_of ps in
    let v = vertices_fit ps h in
    let low : neg_ℤ (pos (2 ^ 29)) ≤ℤ pos (2 ^ 29) = omega (arith, ints) in
    let fx : Point → ℤ = λ p. p.x in
    let fy : Point → ℤ = λ p. p.y in
    record {
      x0_within = between (least fx vs) (least_from fx (neg_ℤ (pos (2 ^ 29))) vs low (x_below vs v)) (least_edge fx vs);
      y0_within = between (least fy vs) (least_from fy (neg_ℤ (pos (2 ^ 29))) vs low (y_below vs v)) (least_edge fy vs);
      x1_within = between (greatest fx vs) (greatest_edge fx vs) (greatest_to fx (pos (2 ^ 29)) vs low (x_above vs v));
      y1_within = between (greatest fy vs) (greatest_edge fy vs) (greatest_to fy (pos (2 ^ 29)) vs low (y_above vs v));
    }

pub min_within : (z a b : ℤ) → z ≡ int_min a b → unsigned_abs a ≤ 2 ^ 29 → unsigned_abs b ≤ 2 ^ 29
    → unsigned_abs z ≤ 2 ^ 29
min_within z a b e h k = omega (arith, ints, clamps, e)

pub max_within : (z a b : ℤ) → z ≡ int_max a b → unsigned_abs a ≤ 2 ^ 29 → unsigned_abs b ≤ 2 ^ 29
    → unsigned_abs z ≤ 2 ^ 29
max_within z a b e h k = omega (arith, ints, clamps, e)

pub box_joined_within : (o a b : Rect4) → IsBoxWithin (2 ^ 29) a → IsBoxWithin (2 ^ 29) b → o.x0 ≡ int_min a.x0 b.x0
    → o.y0 ≡ int_min a.y0 b.y0 → o.x1 ≡ int_max a.x1 b.x1 → o.y1 ≡ int_max a.y1 b.y1 → IsBoxWithin (2 ^ 29) o
box_joined_within o a b h k e f g i = record {
  x0_within = min_within o.x0 a.x0 b.x0 e h.x0_within k.x0_within;
  y0_within = min_within o.y0 a.y0 b.y0 f h.y0_within k.y0_within;
  x1_within = max_within o.x1 a.x1 b.x1 g h.x1_within k.x1_within;
  y1_within = max_within o.y1 a.y1 b.y1 i h.y1_within k.y1_within;
}

pub box_min_within : (o : Rect4) (a b : Point) → IsWithin (2 ^ 29) a → IsWithin (2 ^ 29) b → o.x0 ≡ int_min a.x b.x
    → o.y0 ≡ int_min a.y b.y → o.x1 ≡ int_max a.x b.x → o.y1 ≡ int_max a.y b.y → IsBoxWithin (2 ^ 29) o
box_min_within o a b h k e f g i =
    record {
      x0_within = min_within o.x0 a.x b.x e h.0 k.0;
      y0_within = min_within o.y0 a.y b.y f h.1 k.1;
      x1_within = max_within o.x1 a.x b.x g h.0 k.0;
      y1_within = max_within o.y1 a.y b.y i h.1 k.1;
    }
