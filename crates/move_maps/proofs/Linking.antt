-- Windows link by link: a node out of those of all links has moves that are clear of the item.
use Rattle.std.proofs.Common.{◌≡◌, ℕ, ◌+◌, ◌-◌, ◌<◌, ◌≤◌, ◌^◌, List, [], ◌∷◌, ◌++◌, map, flat_map, length, All, refl}
use Rattle.std.proofs.Common.{sym, ap, subst, arith, take, drop, get_or, add-one, drop-cons, length-drop}
use Rattle.std.proofs.lemmas.List.{drop_all, take_all}
use Rattle.std.proofs.lemmas.List.Elements.{All-nil, All-cons, All-append, All-weaker, All-drop}
use Rattle.geo_kernel.specs.declared.point.Point.{Point}
use Rattle.geo_kernel.specs.declared.spine.Spine.{Spine}
use Rattle.geo_kernel.specs.declared.spine.Spine.TheVariants.{Chain}
use Rattle.geo_kernel.specs.Plane.{IsWithin}
use Rattle.geo_kernel.specs.Spine.{Segment, links, chain_segments, spine_segments}
use Rattle.pcb_model.specs.declared.item.Piece.{Piece}
use Rattle.pcb_model.specs.declared.item.Item.{Item}
use Rattle.pcb_model.specs.declared.design.Design.{Design}
use Rattle.route_lattice.specs.Mesh.{Mesh}
use Rattle.route_lattice.specs.Legal.{probe_at}
use Rattle.move_maps.specs.declared.window.Window.{Window}
use Rattle.move_maps.specs.Windows.{Widens}
use Rattle.move_maps.specs.Paint.{IsClearAt, Covers, CoverTogether, TakeIn}
use Rattle.move_maps.specs.Parts.{IsStrung, part, parts_by, parts}
use Rattle.move_maps.proofs.Stringing.{move_strung, parts_next}
use Rattle.move_maps.proofs.Windowed.{pushed_widens}

-- ---- windows and items
module _ (d : Design) (m : Mesh) (g : ℕ) where
  -- what was covered stays so where a window is added
  still_together : (a : Item) (w : Window) (old new : List Window) → Widens old w new → CoverTogether d m g a old
      → CoverTogether d m g a new
  still_together a w old new wide h = record { each = λ v i hv hi out. h.each v i hv hi (wide.each m v out).0 }

  -- what the added window covers is covered
  now_together : (a : Item) (w : Window) (old new : List Window) → Widens old w new → Covers d m g a w
      → CoverTogether d m g a new
  now_together a w old new wide h = record { each = λ v i hv hi out. h.each v i hv hi (wide.each m v out).1 }

  -- no item is taken in
  take_none : (ws : List Window) → TakeIn d m g [] ws ws
  take_none ws = record { kept = λ a h. h; taken = All-nil (λ (a : Item). CoverTogether d m g a ws) }

  -- an item is taken in by its window, and others after it
  take_on : (a : Item) (items : List Item) (w : Window) (ws us new : List Window) → Widens ws w us → Covers d m g a w
      → TakeIn d m g items us new → TakeIn d m g (a ∷ items) ws new
  take_on a items w ws us new wide h t = record {
    kept = λ x k. t.kept x (still_together x w ws us wide k);
    taken = All-cons (λ (x : Item). CoverTogether d m g x new) a items (t.kept a (now_together a w ws us wide h))
        t.taken;
  }

  -- the parts of a chain are those of its piece
  pub take_piece : (q : Piece) (points : List Point) (ws us : List Window) → q.spine ≡ Chain points
      → ((b : Item) → TakeIn d m g (map (part b q) (chain_segments points)) ws us)
      → (b : Item) → TakeIn d m g (parts_by b q) ws us
  take_piece q points ws us e h b =
      subst (λ (s : Spine). TakeIn d m g (map (part b q) (spine_segments s)) ws us) (sym e) (h b)

  -- the parts of the pieces so far, and of one more
  pub taken_next : (b : Item) (k : ℕ) (q : Piece) (ws us : List Window) → k < length b.pieces
      → q ≡ get_or b.pieces k q
      → All (λ (a : Item). CoverTogether d m g a ws) (flat_map (parts_by b) (take k b.pieces))
      → TakeIn d m g (parts_by b q) ws us
      → All (λ (a : Item). CoverTogether d m g a us) (flat_map (parts_by b) (take (k + 1) b.pieces))
  taken_next b k q ws us h is all t =
      let P : Item → Type 0 = λ a. CoverTogether d m g a ws in
      let Q : Item → Type 0 = λ a. CoverTogether d m g a us in
      let xs = flat_map (parts_by b) (take k b.pieces) in
      subst (All Q) (parts_next b k q xs (xs ++ parts_by b q) h is refl refl)
      (All-append Q xs (parts_by b q) (All-weaker P Q t.kept xs all) t.taken)

  -- the windows of all parts are those of the item
  pub strung_together : (b : Item) (ws : List Window) → IsStrung b
      → All (λ (a : Item). CoverTogether d m g a ws) (parts b) → CoverTogether d m g b ws
  strung_together b ws s all = record {
    each = λ v i hv hi out. move_strung d g b (probe_at d m g v i) s
        (All-weaker (λ (a : Item). CoverTogether d m g a ws) (λ (a : Item). IsClearAt d g a (probe_at d m g v i))
        (λ a h. h.each v i hv hi out) (parts b) all);
  }

  -- so is one window of all its pieces
  pub alone_together : (b : Item) (w : Window) (ws us : List Window) → us ≡ ws ++ w ∷ [] → Covers d m g b w
      → CoverTogether d m g b us
  alone_together b w ws us e h = now_together b w ws us (pushed_widens ws us w e) h

-- ---- link by link
-- the points after the first
pub after_first : (points : List Point) → take (length points - 1) (drop 1 points) ≡ drop 1 points
after_first points = take_all (length points - 1) (drop 1 points) (omega (arith, length-drop 1 points))

-- the first of the links that are left, and the others
next_links : (from z : Point) (qs : List Point) (k : ℕ) → k < length qs → links from (drop k qs)
    ≡ record { from = from; to = get_or qs k z } ∷ links (get_or qs k z) (drop (k + 1) qs)
next_links from z qs k h = ap (links from) (next z qs k h)
  where
    next : (z : Point) (qs : List Point) (k : ℕ) → k < length qs → drop k qs ≡ get_or qs k z ∷ drop (k + 1) qs
    next z qs k h = rw (add-one, drop-cons qs k z)

-- what is left to be taken in of a chain, from a point on
pub record IsTaking (d : Design) (m : Mesh) (g : ℕ) (q : Piece) (points : List Point) (k : ℕ) (from : Point)
    (old ws : List Window) : Type 0 where
  pub within : IsWithin (2 ^ 29) from
  pub rest : (b : Item) (new : List Window)
      → TakeIn d m g (map (part b q) (links from (drop k (drop 1 points)))) ws new
      → TakeIn d m g (map (part b q) (chain_segments points)) old new

module _ (d : Design) (m : Mesh) (g : ℕ) (q : Piece) (points : List Point) (z : Point) (old : List Window) where
  -- the next link is taken in
  taking_next : (k : ℕ) (from : Point) (w : Window) (ws us : List Window) → k < length (drop 1 points)
      → IsWithin (2 ^ 29) (get_or (drop 1 points) k z) → Widens ws w us
      → ((b : Item) → Covers d m g (part b q (record { from = from; to = get_or (drop 1 points) k z })) w)
      → IsTaking d m g q points k from old ws
      → IsTaking d m g q points (k + 1) (get_or (drop 1 points) k z) old us
  taking_next k from w ws us h inside wide c s = record {
    within = inside;
    rest = λ b new t.
        let to = get_or (drop 1 points) k z in
        s.rest b new (subst (λ (ls : List Segment). TakeIn d m g (map (part b q) ls) ws new)
        (sym (next_links from z (drop 1 points) k h))
        (take_on d m g (part b q (record { from = from; to = to }))
        (map (part b q) (links to (drop (k + 1) (drop 1 points)))) w ws us new wide (c b) t));
  }

  -- the same, where the points after the first are those of a slice
  pub taking_on : (qs : List Point) (k : ℕ) (from : Point) (w : Window) (ws us : List Window) → qs ≡ drop 1 points
      → k < length qs → All (IsWithin (2 ^ 29)) points → Widens ws w us
      → ((b : Item) → Covers d m g (part b q (record { from = from; to = get_or qs k z })) w)
      → IsTaking d m g q points k from old ws → IsTaking d m g q points (k + 1) (get_or qs k z) old us
  taking_on qs k from w ws us e h all wide c s =
      subst (λ (ps : List Point). k < length ps
      → ((b : Item) → Covers d m g (part b q (record { from = from; to = get_or ps k z })) w)
      → IsTaking d m g q points (k + 1) (get_or ps k z) old us) (sym e)
      (λ inside covers. taking_next k from w ws us inside (All-drop (IsWithin (2 ^ 29)) 1 points all k z inside) wide
      covers s) h c

  -- at last none is left
  pub taking_last : (qs : List Point) (k : ℕ) (from : Point) (ws : List Window) → qs ≡ drop 1 points → length qs ≤ k
      → IsTaking d m g q points k from old ws → (b : Item)
      → TakeIn d m g (map (part b q) (chain_segments points)) old ws
  taking_last qs k from ws e l s b =
      let h = subst (λ (ps : List Point). length ps ≤ k) e l in
      s.rest b ws (subst (λ (ps : List Point). TakeIn d m g (map (part b q) (links from ps)) ws ws)
      (sym (drop_all k (drop 1 points) h)) (take_none d m g ws))
