-- A chain that begins inside a loop and keeps a distance from the loop's edge has no rational point outside.
use Rattle.std.proofs.Common.{ℕ, ◌<◌, List, [], ◌∷◌, ◌++◌, map, All, sym, ap, ◌∙◌, arith}
use Rattle.std.proofs.lemmas.List.Elements.{All-nil, All-cons, All-head, All-tail, All-append}
use Rattle.geo_kernel.specs.declared.point.Point.{Point}
use Rattle.geo_kernel.specs.declared.spine.Spine.TheVariants.{Chain}
use Rattle.geo_kernel.specs.Spine.{Segment, links, last_of, loop_segments, area_segments, chain_segments, closed, Keeps}
use Rattle.geo_kernel.specs.Spine.{KeepsAll, is_right, IsInside, BeginInside, SpinesKeep}
use Rattle.geo_kernel.specs.Solid.{stretched, point_at, LiesInside, StaysInside}
use Rattle.geo_kernel.proofs.Parity.{odd}
use Rattle.geo_kernel.proofs.Solid.{told_by_odd, area_same, area_stretched, end_point, same_point}

-- ---- along one segment: its points are met by the ray as often as its first one, up to an even number
module _ (loops : List (List Point)) (k : ℕ) (some : 0 < k) where
  inside_along : (g : Segment) → All (Keeps k g) (area_segments loops) → IsInside g.from loops → LiesInside loops g
  inside_along g keeps here n i positive l =
      told_by_odd (is_right g.from) (is_right (point_at n i g)) (area_segments loops)
      (area_segments (map (map (stretched n)) loops))
      (sym (area_stretched n positive g.from loops) ∙ area_same g k n i some positive l loops keeps) here

  inside_end : (g : Segment) → All (Keeps k g) (area_segments loops) → IsInside g.from loops → IsInside g.to loops
  inside_end g keeps here =
      told_by_odd (is_right (point_at 1 1 g)) (is_right g.to) (area_segments (map (map (stretched 1)) loops))
      (area_segments loops)
      (ap (λ p. odd (is_right p) (area_segments (map (map (stretched 1)) loops)))
      (same_point loops k some _ _ _ _ (end_point loops k some g.from.x g.to.x)
      (end_point loops k some g.from.y g.to.y))
      ∙ area_stretched 1 (omega arith) g.to loops) (inside_along g keeps here 1 1 (omega arith) (omega arith))

  path_inside : (u : Point) (vs : List Point) → All (λ g. All (Keeps k g) (area_segments loops)) (links u vs)
      → IsInside u loops → All (LiesInside loops) (links u vs)
  path_inside u [] h here = All-nil (LiesInside loops)
  path_inside u (v ∷ vs) h here =
      let P : Segment → Type 0 = λ g. All (Keeps k g) (area_segments loops) in
      let g : Segment = record { from = u; to = v } in
      let first = All-head P g (links v vs) h in
      All-cons (LiesInside loops) g (links v vs) (inside_along g first here)
      (path_inside v vs (All-tail P g (links v vs) h) (inside_end g first here))

  chain_inside : (p : Point) (ps : List Point)
      → All (λ g. All (Keeps k g) (area_segments loops)) (chain_segments (p ∷ ps)) → IsInside p loops
      → All (LiesInside loops) (chain_segments (p ∷ ps))
  chain_inside p [] h here = path_inside p (p ∷ []) h here
  chain_inside p (q ∷ qs) h here = path_inside p (q ∷ qs) h here

-- ---- the edge of a loop, as a closed chain, has the loop's segments
module _ (P : Segment → Type 0) where
  -- the links through some points and on to one more: the last of them, and all before it
  all-on : (p : Point) (ps : List Point) (q : Point) → All P (links p (ps ++ q ∷ []))
      → All P (links p ps) × P (record { from = last_of p ps; to = q })
  all-on p [] q h = (All-nil P, All-head P (record { from = p; to = q }) [] h)
  all-on p (r ∷ rs) q h =
      let g : Segment = record { from = p; to = r } in
      let rest = all-on r rs q (All-tail P g (links r (rs ++ q ∷ [])) h) in
      (All-cons P g (links r rs) (All-head P g (links r (rs ++ q ∷ [])) h) rest.0, rest.1)

  all-closed : (p : Point) (ps : List Point) → All P (chain_segments (closed (p ∷ ps))) → All P (loop_segments (p ∷ ps))
  all-closed p [] h = h
  all-closed p (q ∷ qs) h =
      let parts = all-on p (q ∷ qs) p h in
      All-cons P (record { from = last_of p (q ∷ qs); to = p }) (links p (q ∷ qs)) parts.1 parts.0

-- ---- the whole
all-each : {X : Type 0} (P Q : X → Type 0) → ((x : X) → P x → Q x) → (xs : List X) → All P xs → All Q xs
all-each P Q f xs h = λ k d l. f _ (h k d l)

pub stays_inside : (chain rim : List Point) (k : ℕ) → 0 < k → BeginInside chain (rim ∷ [])
    → SpinesKeep (Chain chain) (Chain (closed rim)) k → StaysInside chain (rim ∷ [])
stays_inside [] rim k some here h = absurd here
stays_inside (p ∷ ps) [] k some here h = absurd (omega (arith, here))
stays_inside (p ∷ ps) (q ∷ qs) k some here h =
    chain_inside ((q ∷ qs) ∷ []) k some p ps
    (all-each (KeepsAll k (Chain (closed (q ∷ qs)))) (λ g. All (Keeps k g) (area_segments ((q ∷ qs) ∷ [])))
    (λ g all. All-append (Keeps k g) (loop_segments (q ∷ qs)) [] (all-closed (Keeps k g) q qs all)
    (All-nil (Keeps k g)))
    (chain_segments (p ∷ ps)) h.segments) here
