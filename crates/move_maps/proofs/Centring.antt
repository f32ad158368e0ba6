-- Padstacks about the origin: what lies near at a node, and what begins inside there.
use Rattle.std.proofs.Common.{◌≡◌, ℕ, ℤ, pos, ◌≤◌, ◌^◌, ◌+ℤ◌, ◌≤ℤ◌, Bool, true, false, ◌&&◌, List, [], ◌∷◌}
use Rattle.std.proofs.Common.{map, flat_map, length, All, refl, sym, ap, ◌∙◌, subst, arith}
use Rattle.std.specs.Prelude.{unsigned_abs, nat_le}
use Rattle.std.specs.List.{list_all}
use Rattle.std.proofs.lemmas.Int.{ints}
use Rattle.std.proofs.lemmas.List.Elements.{All-nil, All-cons, All-head, All-tail, All-map, All-weaker}
use Rattle.geo_kernel.specs.declared.point.Point.{Point}
use Rattle.geo_kernel.specs.declared.point.Rect4.{Rect4}
use Rattle.geo_kernel.specs.declared.spine.Spine.{Spine}
use Rattle.geo_kernel.specs.declared.spine.Spine.TheVariants.{Chain, Area}
use Rattle.geo_kernel.specs.Boxes.{IsIn}
use Rattle.geo_kernel.specs.Spine.{vertices, outline, BeginInside, IsFirst}
use Rattle.geo_kernel.specs.Moved.{moved, moved_spine}
use Rattle.geo_kernel.proofs.Bounds.{seen, unseen}
use Rattle.geo_kernel.proofs.Paths.{All-append_first, All-append_second}
use Rattle.pcb_model.specs.declared.item.Piece.{Piece}
use Rattle.pcb_model.specs.declared.design.Design.{Design}
use Rattle.pcb_model.specs.declared.near.Extent.{Extent}
use Rattle.pcb_model.specs.Near.{IsPieceIn, IsExtentOf}
use Rattle.pcb_model.specs.Pieces.{moved_piece, padstack_pieces}
use Rattle.pcb_model.specs.Board.{IsInsideEach, BeginsInEach, AreInside}
use Rattle.pcb_model.specs.Sound.{origin}
use Rattle.route_lattice.specs.Mesh.{Mesh, column, row, point_of}
use Rattle.route_lattice.specs.Near.{is_near_at, is_spine_near_at, are_near_at}
use Rattle.route_lattice.proofs.Places.{row_below}
use Rattle.route_lattice.proofs.Windows.{column_below}
use Rattle.move_maps.specs.Starts.{StaysNear, IsCentred}

-- ---- near
-- a number that the code passed on is the number
pub unseen_small : (z : ℤ) → unsigned_abs z ≤ 2 ^ 29 → seen z ≡ z
unseen_small z h = unseen z (omega (arith, h))

-- what stays near by numbers that the code passed on
pub near_unseen : (low high : ℤ) (zs : List ℤ) → unsigned_abs low ≤ 2 ^ 29 → unsigned_abs high ≤ 2 ^ 29
    → All (StaysNear (seen low) (seen high)) zs → All (StaysNear low high) zs
near_unseen low high zs h k s = subst (λ (a : ℤ). All (StaysNear a high) zs) (unseen_small low h)
    (subst (λ (b : ℤ). All (StaysNear (seen low) b) zs) (unseen_small high k) s)

-- a number that isn't above another
le_true : (a b : ℕ) → a ≤ b → nat_le a b ≡ true
le_true a b h = grind (arith, h)

-- a coordinate of a vertex in the box, moved
one_near : (low high z v : ℤ) → StaysNear low high z → low ≤ℤ v → v ≤ℤ high → unsigned_abs (v +ℤ z) ≤ 2 ^ 29
one_near low high z v s l h = let a = s.from in let b = s.to in omega (arith, ints, a, b, l, h)

-- two tests
both : (a b : Bool) → a ≡ true → b ≡ true → (a && b) ≡ true
both true b e f = f
both false b e f = e

-- tests that all hold
all_true : {X : Type 0} (f : X → Bool) (xs : List X) → All (λ x. f x ≡ true) xs → list_all f xs ≡ true
all_true f [] h = refl
all_true f (x ∷ xs) h = both (f x) (list_all f xs) (All-head (λ y. f y ≡ true) x xs h)
    (all_true f xs (All-tail (λ y. f y ≡ true) x xs h))

-- what holds of all elements of all lists
all_flat : {X : Type 0} (P : X → Type 0) (ls : List (List X)) → All P (flat_map (λ l. l) ls) → All (All P) ls
all_flat P [] h = All-nil (All P)
all_flat P (l ∷ ls) h = All-cons (All P) l ls (All-append_first P l (flat_map (λ x. x) ls) h)
    (all_flat P ls (All-append_second P l (flat_map (λ x. x) ls) h))

module _ (r : Rect4) (by : Point) (sx : StaysNear r.x0 r.x1 by.x) (sy : StaysNear r.y0 r.y1 by.y) where
  -- a vertex
  vertex_near : (p : Point) → IsIn r p → is_near_at by p ≡ true
  vertex_near p h = both _ _ (le_true _ _ (one_near r.x0 r.x1 by.x p.x sx h.left h.right))
      (le_true _ _ (one_near r.y0 r.y1 by.y p.y sy h.bottom h.top))

  -- some vertices
  vertices_near : (ps : List Point) → All (IsIn r) ps → list_all (is_near_at by) ps ≡ true
  vertices_near ps h = all_true (is_near_at by) ps
      (All-weaker (IsIn r) (λ p. is_near_at by p ≡ true) vertex_near ps h)

  -- a spine
  spine_near : (s : Spine) → All (IsIn r) (vertices s) → is_spine_near_at by s ≡ true
  spine_near (Chain ps) h = vertices_near ps h
  spine_near (Area ls) h = all_true (list_all (is_near_at by)) ls
      (All-weaker (All (IsIn r)) (λ l. list_all (is_near_at by) l ≡ true) vertices_near ls (all_flat (IsIn r) ls h))

-- pieces in a box
pieces_near : (e : Extent) (by : Point) (ps : List Piece) → StaysNear e.bounds.x0 e.bounds.x1 by.x
    → StaysNear e.bounds.y0 e.bounds.y1 by.y → IsExtentOf ps e → are_near_at by ps ≡ true
pieces_near e by ps sx sy h = all_true (λ (q : Piece). is_spine_near_at by q.spine) ps
    (All-weaker (IsPieceIn e) (λ q. is_spine_near_at by q.spine ≡ true)
    (λ q k. spine_near e.bounds by sx sy q.spine k.spine_in) ps h.each)

-- a padstack whose pieces begin at the origin, and whose box stays near at each line, is centred
pub centred : (d : Design) (m : Mesh) (padstack : ℕ) (e : Extent)
    → All (λ (q : Piece). IsFirst q.spine origin) (padstack_pieces d padstack)
    → IsExtentOf (padstack_pieces d padstack) e → All (StaysNear e.bounds.x0 e.bounds.x1) m.xs
    → All (StaysNear e.bounds.y0 e.bounds.y1) m.ys → IsCentred d m padstack
centred d m padstack e first h sx sy = record {
  first = first;
  near = λ v hv. pieces_near e (point_of m v) (padstack_pieces d padstack)
      (sx (column m v) (pos 0) (column_below m v hv))
      (sy (row m v) (pos 0) (row_below (length m.xs) (length m.ys) (length m.layers) v hv)) h;
}

-- ---- inside
-- the origin, moved
from_origin : (p : Point) → moved p origin ≡ p
from_origin p =
    let e : (pos 0 +ℤ p.x) ≡ p.x = omega (arith, ints) in
    let h : (pos 0 +ℤ p.y) ≡ p.y = omega (arith, ints) in
    ap (λ (x : ℤ). record { x = x; y = pos 0 +ℤ p.y }) e ∙ ap (λ (y : ℤ). record { x = p.x; y = y }) h

-- the first vertex of a moved spine
outline_moved : (by : Point) (s : Spine) → outline (moved_spine by s) ≡ map (moved by) (outline s)
outline_moved by (Chain ps) = refl
outline_moved by (Area []) = refl
outline_moved by (Area (l ∷ ls)) = refl

-- a piece that begins at the origin begins inside where it is moved to a point that is
begins_inside : (bounds : List (List (List Point))) (by : Point) (q : Piece) → IsInsideEach bounds by
    → IsFirst q.spine origin → BeginsInEach bounds (moved_piece by q)
begins_inside bounds by q h f =
    let e : outline (moved_spine by q.spine) ≡ moved by origin ∷ map (moved by) f.rest =
    outline_moved by q.spine ∙ ap (map (moved by)) f.is in
    let k : outline (moved_spine by q.spine) ≡ by ∷ map (moved by) f.rest =
    e ∙ ap (λ (p : Point). p ∷ map (moved by) f.rest) (from_origin by) in
    record { each = subst (λ (ps : List Point). All (BeginInside ps) bounds) (sym k) h.each }

-- so do all pieces of such a padstack
pub inside_centred : (bounds : List (List (List Point))) (by : Point) (ps : List Piece) → IsInsideEach bounds by
    → All (λ (q : Piece). IsFirst q.spine origin) ps → AreInside bounds (map (moved_piece by) ps)
inside_centred bounds by ps h f = record {
  each = All-map (BeginsInEach bounds) (moved_piece by) ps
      (All-weaker (λ q. IsFirst q.spine origin) (λ q. BeginsInEach bounds (moved_piece by q))
      (λ q k. begins_inside bounds by q h k) ps f);
}
