-- What the extents of pieces tell.
use Rattle.std.proofs.Common.{◌≡◌, ℕ, ℤ, ◌≤◌, ◌<◌, ◌+◌, ◌^◌, ◌+ℤ◌, List, [], ◌∷◌, ◌++◌, length, map, take, flat_map}
use Rattle.std.proofs.Common.{All, Any, get_or, arith, sym, refl, ap, ◌∙◌, subst, unsigned_abs}
use Rattle.std.proofs.lemmas.Int.{ints}
use Rattle.std.proofs.lemmas.List.{map-append}
use Rattle.std.proofs.lemmas.List.Elements.{All-more, All-map, All-nil, All-append, All-head, All-tail}
use Rattle.geo_kernel.specs.declared.point.Point.{Point}
use Rattle.geo_kernel.specs.declared.point.Rect4.{Rect4}
use Rattle.geo_kernel.specs.declared.spine.Spine.{Spine}
use Rattle.geo_kernel.specs.declared.spine.Spine.TheVariants.{Chain, Area}
use Rattle.geo_kernel.specs.Plane.{IsWithin}
use Rattle.geo_kernel.specs.Boxes.{IsIn, IsInBox, IsBoxOf}
use Rattle.geo_kernel.specs.Spine.{IsSpineWithin, vertices}
use Rattle.geo_kernel.specs.Moved.{moved, moved_spine}
use Rattle.pcb_model.specs.declared.item.Piece.{Piece}
use Rattle.pcb_model.specs.declared.near.Extent.{Extent}
use Rattle.pcb_model.specs.Near.{IsPieceIn, IsExtentOf, IsBoxWithin, moved_box_by, EnclosesBox, Encloses}
use Rattle.pcb_model.proofs.Growing.{All-weaken, All-whole}
use Rattle.pcb_model.proofs.Probes.{All-unmap}

point_enclosed : (o i : Rect4) → EnclosesBox o i → (p : Point) → IsIn i p → IsIn o p
point_enclosed o i e p h = record {
  left = omega (arith, ints, e.from_x, h.left);
  right = omega (arith, ints, e.to_x, h.right);
  bottom = omega (arith, ints, e.from_y, h.bottom);
  top = omega (arith, ints, e.to_y, h.top);
}

piece_enclosed : (o i : Extent) → Encloses o i → (p : Piece) → IsPieceIn i p → IsPieceIn o p
piece_enclosed o i e p h = record {
  spine_in = All-weaken (IsIn i.bounds) (IsIn o.bounds) (vertices p.spine) (point_enclosed o.bounds i.bounds e.bounds)
      h.spine_in;
  width_in = omega (arith, e.width, h.width_in);
  from_layer = omega (arith, e.from_layer, h.from_layer);
  to_layer = omega (arith, e.to_layer, h.to_layer);
}

-- one more piece in a joined extent
pub piece_joined : (f : Piece → Piece) (o e n : Extent) (ps : List Piece) (i : ℕ) (p : Piece) → i < length ps
    → p ≡ get_or ps i p → Encloses o e → Encloses o n
    → All (λ q. IsPieceIn e (f q)) (take i ps) → IsPieceIn n (f p) → All (λ q. IsPieceIn o (f q)) (take (i + 1) ps)
piece_joined f o e n ps i p l is a b h k =
    let P : Piece → Type 0 = λ q. IsPieceIn o (f q) in
    All-more P ps i p l (All-weaken (λ q. IsPieceIn e (f q)) P (take i ps) (λ q. piece_enclosed o e a (f q)) h)
    (subst P is (piece_enclosed o n b (f p) k))

pub extent_whole : (f : Piece → Piece) (e : Extent) (ps : List Piece) (i : ℕ) → length ps ≤ i → e.width ≤ 2 ^ 28
    → All (λ q. IsPieceIn e (f q)) (take i ps) → IsExtentOf (map f ps) e
extent_whole f e ps i l w h =
    record { each = All-map (IsPieceIn e) f ps (All-whole (λ q. IsPieceIn e (f q)) ps i l h); width_within = w }

-- ---- boxes of moved spines
loops_moved : (f : Point → Point) (ls : List (List Point)) → flat_map (λ l. l) (map (map f) ls)
    ≡ map f (flat_map (λ l. l) ls)
loops_moved f [] = refl
loops_moved f (l ∷ ls) = ap (λ ps. map f l ++ ps) (loops_moved f ls) ∙ sym (map-append f l (flat_map (λ x. x) ls))

-- the vertices of a moved spine
pub vertices_moved : (by : Point) (s : Spine) → vertices (moved_spine by s) ≡ map (moved by) (vertices s)
vertices_moved by (Chain ps) = refl
vertices_moved by (Area ls) = loops_moved (moved by) ls

point_moved : (by : Point) (r : Rect4) (p : Point) → IsIn r p → IsIn (moved_box_by by r) (moved by p)
point_moved by r p h = record {
  left = omega (arith, ints, h.left);
  right = omega (arith, ints, h.right);
  bottom = omega (arith, ints, h.bottom);
  top = omega (arith, ints, h.top);
}

-- a moved spine is in the moved box
pub spine_moved : (by : Point) (r : Rect4) (s : Spine) → IsBoxOf s r → IsInBox (moved_box_by by r) (moved_spine by s)
spine_moved by r s h =
    let m = moved_box_by by r in
    subst (All (IsIn m)) (sym (vertices_moved by s))
    (All-map (IsIn m) (moved by) (vertices s)
    (All-weaken (IsIn r) (λ p. IsIn m (moved by p)) (vertices s) (point_moved by r) h.within))

all_flat : (P : Point → Type 0) (ls : List (List Point)) → All (All P) ls → All P (flat_map (λ l. l) ls)
all_flat P [] h = All-nil P
all_flat P (l ∷ ls) h =
    All-append P l (flat_map (λ x. x) ls) (All-head (All P) l ls h) (all_flat P ls (All-tail (All P) l ls h))

pub vertices_within : (m : ℕ) (s : Spine) → IsSpineWithin m s → All (IsWithin m) (vertices s)
vertices_within m (Chain ps) h = h
vertices_within m (Area ls) h = all_flat (IsWithin m) ls h

-- a side that meets a vertex is where a moved vertex is
side_within : (m : ℕ) (side : Point → ℤ) (z by : ℤ) (ps : List Point) → Any (λ p. side p ≡ z) ps
    → All (λ p. unsigned_abs (side p +ℤ by) ≤ m) ps → unsigned_abs (z +ℤ by) ≤ m
side_within m side z by ps (k, p, l, e, h) a = subst (λ (y : ℤ). unsigned_abs (y +ℤ by) ≤ m) (ap side e ∙ h) (a k p l)

-- the sides of the moved box stay within the bounds
pub sides_within : (m : ℕ) (by : Point) (s : Spine) (r : Rect4) → IsBoxOf s r → IsSpineWithin m (moved_spine by s)
    → IsBoxWithin m (moved_box_by by r)
sides_within m by s r h w =
    let a = All-unmap (IsWithin m) (moved by) (vertices s)
    (subst (All (IsWithin m)) (vertices_moved by s) (vertices_within m (moved_spine by s) w)) in
    let xs : All (λ (p : Point). unsigned_abs (p.x +ℤ by.x) ≤ m) (vertices s) = λ k d l. (a k d l).0 in
    let ys : All (λ (p : Point). unsigned_abs (p.y +ℤ by.y) ≤ m) (vertices s) = λ k d l. (a k d l).1 in
    record {
      x0_within = side_within m (λ p. p.x) r.x0 by.x (vertices s) h.left xs;
      y0_within = side_within m (λ p. p.y) r.y0 by.y (vertices s) h.bottom ys;
      x1_within = side_within m (λ p. p.x) r.x1 by.x (vertices s) h.right xs;
      y1_within = side_within m (λ p. p.y) r.y1 by.y (vertices s) h.top ys;
    }
