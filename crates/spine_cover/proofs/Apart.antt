-- What touches no edge of an area, and doesn't begin inside it, has no rational point inside it: for any distance, 0
-- too.
use Rattle.std.proofs.Common.{◌≡◌, ℕ, List, [], ◌∷◌, All, Any, ℤ, pos, ◌+ℤ◌, ◌*ℤ◌, inl, inr, subst, sym, arith}
use Rattle.std.proofs.lemmas.List.Elements.{All-nil, All-cons, All-head, All-tail, All-append}
use Rattle.geo_kernel.specs.declared.point.Point.{Point}
use Rattle.geo_kernel.specs.declared.spine.Spine.{Spine}
use Rattle.geo_kernel.specs.declared.spine.Spine.TheVariants.{Chain, Area}
use Rattle.geo_kernel.specs.Spine.{Segment, links, last_of, chain_segments, loop_segments, area_segments}
use Rattle.geo_kernel.specs.Spine.{spine_segments, Touches, TouchesSome, IsInside, SpinesTouch}
use Rattle.geo_kernel.specs.Solid.{stretched, point_at, IsInsideAt, IsOutside, IsSimple, StaysOutside}
use Rattle.geo_kernel.proofs.Ring.{ring, lit, ◌⊕◌, ◌⊗◌, x0, x1}
use Rattle.geo_kernel.proofs.Moves.{point_is}
use Rattle.geo_kernel.proofs.Paths.{Any-here, Any-there, All-append_first}
use Rattle.spine_cover.proofs.Hits.{hit_of, part_touches}
use Rattle.spine_cover.proofs.Stretching.{inside_larger, inside_smaller, inside_back}

none : {X : Type 0} (Q : X → Type 0) (xs : List X) → ¬ (Any Q xs) → All (λ x. ¬ (Q x)) xs
none Q [] h = All-nil (λ x. ¬ (Q x))
none Q (x ∷ xs) h = All-cons (λ x. ¬ (Q x)) x xs (λ q. h (Any-here Q x xs q)) (none Q xs (λ q. h (Any-there Q x xs q)))

-- the segment touches none of these
abbrev pub Clear : ℕ → List Segment → Segment → Type 0
Clear k es g = All (λ e. ¬ (Touches k g e)) es

pub all_clear : (s t : Spine) (k : ℕ) → ¬ (Any (TouchesSome k t) (spine_segments s))
    → All (Clear k (spine_segments t)) (spine_segments s)
all_clear s t k h = λ i g m. none (Touches k _) (spine_segments t) (none (TouchesSome k t) (spine_segments s) h i g m)

module _ (loops : List (List Point)) (k : ℕ) where
  abbrev Free : Segment → Type 0
  Free g = Clear k (area_segments loops) g

  outside_along : (g : Segment) → Free g → ¬ (IsInside g.from loops) → IsOutside loops g
  outside_along g clear out n i positive l in_it =
      out (inside_smaller n positive g.from loops
      (inside_back n positive (stretched n g.from) (point_at n i g) loops
      (λ j d m x. clear j d m (part_touches g _ k n i positive l (hit_of _ _ _ _ x))) in_it))

  -- the end of the segment, as its point at 1/1
  end_point : (a b : ℤ) → pos 0 *ℤ a +ℤ pos 1 *ℤ b ≡ pos 1 *ℤ b
  end_point a b = ring (a ∷ b ∷ []) (lit 0 ⊗ x0 ⊕ lit 1 ⊗ x1) (lit 1 ⊗ x1) tt

  outside_end : (g : Segment) → Free g → ¬ (IsInside g.from loops) → ¬ (IsInside g.to loops)
  outside_end g clear out in_it =
      outside_along g clear out 1 1 (omega arith) (omega arith)
      (subst (λ (p : Point). IsInsideAt 1 p loops)
      (sym (point_is _ _ _ _ (end_point g.from.x g.to.x) (end_point g.from.y g.to.y)))
      (inside_larger 1 (omega arith) g.to loops in_it))

  -- ---- along a path
  path_outside : (u : Point) (vs : List Point) → All Free (links u vs) → ¬ (IsInside u loops)
      → All (IsOutside loops) (links u vs)
  path_outside u [] h out = All-nil (IsOutside loops)
  path_outside u (v ∷ vs) h out =
      let g : Segment = record { from = u; to = v } in
      let here = All-head Free g (links v vs) h in
      All-cons (IsOutside loops) g (links v vs) (outside_along g here out)
      (path_outside v vs (All-tail Free g (links v vs) h) (outside_end g here out))

  chain_outside : (p : Point) (ps : List Point) → All Free (chain_segments (p ∷ ps)) → ¬ (IsInside p loops)
      → All (IsOutside loops) (chain_segments (p ∷ ps))
  chain_outside p [] h out = path_outside p (p ∷ []) h out
  chain_outside p (q ∷ qs) h out = path_outside p (q ∷ qs) h out

  path_end : (u : Point) (vs : List Point) → All Free (links u vs) → ¬ (IsInside u loops)
      → ¬ (IsInside (last_of u vs) loops)
  path_end u [] h out = out
  path_end u (v ∷ vs) h out =
      let g : Segment = record { from = u; to = v } in
      path_end v vs (All-tail Free g (links v vs) h) (outside_end g (All-head Free g (links v vs) h) out)

  loop_outside : (p : Point) (ps : List Point) → All Free (loop_segments (p ∷ ps)) → ¬ (IsInside p loops)
      → All (IsOutside loops) (loop_segments (p ∷ ps))
  loop_outside p ps h out =
      let g : Segment = record { from = last_of p ps; to = p } in
      let rest = All-tail Free g (links p ps) h in
      All-cons (IsOutside loops) g (links p ps)
      (outside_along g (All-head Free g (links p ps) h) (path_end p ps rest out)) (path_outside p ps rest out)

-- ---- the whole
pub apart_outside : (s t : Spine) (k : ℕ) → IsSimple s → ¬ (SpinesTouch s t k) → StaysOutside s t
apart_outside s (Chain ps) k simple h = tt
apart_outside (Chain []) (Area loops) k simple h = All-nil (IsOutside loops)
apart_outside (Chain (p ∷ ps)) (Area loops) k simple h =
    chain_outside loops k p ps (all_clear (Chain (p ∷ ps)) (Area loops) k (λ x. h (inl x))) (λ x. h (inr (inl x)))
apart_outside (Area []) (Area loops) k simple h = absurd simple
apart_outside (Area ([] ∷ [])) (Area loops) k simple h = All-nil (IsOutside loops)
apart_outside (Area ((p ∷ ps) ∷ [])) (Area loops) k simple h =
    All-append (IsOutside loops) (loop_segments (p ∷ ps)) []
    (loop_outside loops k p ps
    (All-append_first (Clear k (area_segments loops)) (loop_segments (p ∷ ps)) []
    (all_clear (Area ((p ∷ ps) ∷ [])) (Area loops) k (λ x. h (inl x)))) (λ x. h (inr (inl x))))
    (All-nil (IsOutside loops))
apart_outside (Area (loop ∷ more ∷ rest)) (Area loops) k simple h = absurd simple
