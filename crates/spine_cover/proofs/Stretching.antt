-- A picture n times as large: what is inside stays inside, and along a segment that meets no edge points are inside
-- alike.
use Rattle.std.proofs.Common.{◌≡◌, ℕ, ◌<◌, ◌++◌, List, [], ◌∷◌, map, All}
use Rattle.std.proofs.Common.{refl, sym, ap, ap₂, ◌∙◌, subst}
use Rattle.std.proofs.lemmas.List.{map-append}
use Rattle.std.proofs.lemmas.List.Elements.{All-head, All-tail, All-map}
use Rattle.geo_kernel.specs.declared.point.Point.{Point}
use Rattle.geo_kernel.specs.Nearest.{Cross}
use Rattle.geo_kernel.specs.Spine.{Segment, links, last_of, loop_segments, area_segments, is_right, IsInside}
use Rattle.geo_kernel.specs.Solid.{stretched, IsInsideAt}
use Rattle.geo_kernel.proofs.Paths.{All-append_first, All-append_second}
use Rattle.geo_kernel.proofs.Parity.{xor, odd, NoneCross, same_parity}
use Rattle.geo_kernel.proofs.Solid.{odd-append, told_by_odd, right_stretched}

-- ---- along a segment that meets no edge
module _ (p x : Point) where
  abbrev Missed : Segment → Type 0
  Missed e = ¬ (Cross p x e.from e.to)

  none_cross : (u : Point) (vs : List Point) → All Missed (links u vs) → NoneCross p x u vs
  none_cross u [] h = tt
  none_cross u (v ∷ vs) h = (
    All-head Missed (record { from = u; to = v }) (links v vs) h,
    none_cross v vs (All-tail Missed (record { from = u; to = v }) (links v vs) h),
  )

  last_is : (q : Point) (qs : List Point) → last_of (last_of q qs) (q ∷ qs) ≡ last_of q qs
  last_is q qs = refl

  loop_same : (loop : List Point) → All Missed (loop_segments loop) → odd (is_right p) (loop_segments loop)
      ≡ odd (is_right x) (loop_segments loop)
  loop_same [] h = refl
  loop_same (q ∷ qs) h = same_parity p x (last_of q qs) (q ∷ qs) (last_is q qs) (none_cross (last_of q qs) (q ∷ qs) h)

  area_same : (loops : List (List Point)) → All Missed (area_segments loops) → odd (is_right p) (area_segments loops)
      ≡ odd (is_right x) (area_segments loops)
  area_same [] h = refl
  area_same (loop ∷ loops) h =
      odd-append (is_right p) (loop_segments loop) (area_segments loops)
      ∙ ap₂ xor (loop_same loop (All-append_first Missed (loop_segments loop) (area_segments loops) h))
      (area_same loops (All-append_second Missed (loop_segments loop) (area_segments loops) h))
      ∙ sym (odd-append (is_right x) (loop_segments loop) (area_segments loops))

  pub inside_beside : (loops : List (List Point)) → All (λ e. ¬ (Cross p x e.from e.to)) (area_segments loops)
      → IsInside p loops → IsInside x loops
  inside_beside loops h =
      told_by_odd (is_right p) (is_right x) (area_segments loops) (area_segments loops) (area_same loops h)

  pub inside_before : (loops : List (List Point)) → All (λ e. ¬ (Cross p x e.from e.to)) (area_segments loops)
      → IsInside x loops → IsInside p loops
  inside_before loops h =
      told_by_odd (is_right x) (is_right p) (area_segments loops) (area_segments loops) (sym (area_same loops h))

-- ---- the segments n times as large
module _ (n : ℕ) (positive : 0 < n) where
  abbrev pub larger : Segment → Segment
  larger g = record { from = stretched n g.from; to = stretched n g.to }

  links_larger : (u : Point) (vs : List Point) → links (stretched n u) (map (stretched n) vs) ≡ map larger (links u vs)
  links_larger u [] = refl
  links_larger u (v ∷ vs) = ap (λ (gs : List Segment). larger (record { from = u; to = v }) ∷ gs) (links_larger v vs)

  last_larger : (p : Point) (ps : List Point) → last_of (stretched n p) (map (stretched n) ps)
      ≡ stretched n (last_of p ps)
  last_larger p [] = refl
  last_larger p (q ∷ qs) = last_larger q qs

  loop_larger : (loop : List Point) → loop_segments (map (stretched n) loop) ≡ map larger (loop_segments loop)
  loop_larger [] = refl
  loop_larger (q ∷ qs) = ap (λ (r : Point). links r (map (stretched n) (q ∷ qs))) (last_larger q qs)
      ∙ links_larger (last_of q qs) (q ∷ qs)

  pub area_larger : (loops : List (List Point)) → area_segments (map (map (stretched n)) loops)
      ≡ map larger (area_segments loops)
  area_larger [] = refl
  area_larger (loop ∷ loops) = ap₂ (λ (xs ys : List Segment). xs ++ ys) (loop_larger loop) (area_larger loops)
      ∙ sym (map-append larger (loop_segments loop) (area_segments loops))

  odd_larger : (p : Point) (gs : List Segment) → odd (is_right (stretched n p)) (map larger gs) ≡ odd (is_right p) gs
  odd_larger p [] = refl
  odd_larger p (g ∷ gs) = ap₂ xor (right_stretched n positive p g.from g.to) (odd_larger p gs)

  area_odd : (p : Point) (loops : List (List Point))
      → odd (is_right (stretched n p)) (area_segments (map (map (stretched n)) loops))
      ≡ odd (is_right p) (area_segments loops)
  area_odd p loops = ap (odd (is_right (stretched n p))) (area_larger loops) ∙ odd_larger p (area_segments loops)

  pub inside_larger : (p : Point) (loops : List (List Point)) → IsInside p loops → IsInsideAt n (stretched n p) loops
  inside_larger p loops =
      told_by_odd (is_right p) (is_right (stretched n p)) (area_segments loops)
      (area_segments (map (map (stretched n)) loops)) (sym (area_odd p loops))

  pub inside_smaller : (p : Point) (loops : List (List Point)) → IsInsideAt n (stretched n p) loops → IsInside p loops
  inside_smaller p loops =
      told_by_odd (is_right (stretched n p)) (is_right p) (area_segments (map (map (stretched n)) loops))
      (area_segments loops) (area_odd p loops)

  -- along the segment from p to x, which meets no edge of the loops n times as large
  pub inside_along : (p x : Point) (loops : List (List Point))
      → All (λ e. ¬ (Cross p x (stretched n e.from) (stretched n e.to))) (area_segments loops) → IsInsideAt n p loops
      → IsInsideAt n x loops
  inside_along p x loops none =
      inside_beside p x (map (map (stretched n)) loops)
      (subst (All (λ e. ¬ (Cross p x e.from e.to))) (sym (area_larger loops))
      (All-map (λ e. ¬ (Cross p x e.from e.to)) larger (area_segments loops) none))

  pub inside_back : (p x : Point) (loops : List (List Point))
      → All (λ e. ¬ (Cross p x (stretched n e.from) (stretched n e.to))) (area_segments loops) → IsInsideAt n x loops
      → IsInsideAt n p loops
  inside_back p x loops none =
      inside_before p x (map (map (stretched n)) loops)
      (subst (All (λ e. ¬ (Cross p x e.from e.to))) (sym (area_larger loops))
      (All-map (λ e. ¬ (Cross p x e.from e.to)) larger (area_segments loops) none))
