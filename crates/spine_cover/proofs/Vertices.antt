-- A chain covers its vertices.
use Rattle.std.proofs.Common.{◌≡◌, ℕ, zero, suc, List, [], ◌∷◌, Any, ℤ, pos, ◌*◌, inl, sym, subst, arith}
use Rattle.std.specs.Prelude.{Contains}
use Rattle.geo_kernel.specs.declared.point.Point.{Point}
use Rattle.geo_kernel.specs.declared.spine.Spine.TheVariants.{Chain}
use Rattle.geo_kernel.specs.Plane.{apart, SegmentsTouch}
use Rattle.geo_kernel.specs.Spine.{Segment, links, chain_segments, Touches, TouchesSome}
use Rattle.geo_kernel.proofs.Ring.{ring, lit, ◌⊕◌, ◌⊖◌, ◌⊗◌, x0, x1}
use Rattle.geo_kernel.proofs.Paths.{Any-here, Any-there}
use Rattle.spine_cover.specs.Covering.{CoversBy}
use Rattle.spine_cover.proofs.Hits.{at_nothing}

abbrev pub segment : Point → Point → Segment
segment p q = record { from = p; to = q }

-- ---- a segment that ends at a vertex
module _ (P : Segment → Type 0) (p : Point) (from : (q : Point) → P (segment p q)) (to : (q : Point) → P (segment q p))
  where
    from_first : (u v : Point) → u ≡ p → P (segment u v)
    from_first u v e = subst (λ (x : Point). P (segment x v)) (sym e) (from v)

    to_second : (u v : Point) → v ≡ p → P (segment u v)
    to_second u v e = subst (λ (x : Point). P (segment u x)) (sym e) (to u)

    link_at_vertex : (u : Point) (vs : List Point) → Contains vs p → Any P (links u vs)
    link_at_vertex u [] (k, h, e) = absurd (omega arith)
    link_at_vertex u (v ∷ vs) (zero, h, e) = Any-here P (segment u v) (links v vs) (to_second u v e)
    link_at_vertex u (v ∷ vs) (suc k, h, e) =
        Any-there P (segment u v) (links v vs) (link_at_vertex v vs (k, omega arith, e))

    chain_at_vertex : (ps : List Point) → Contains ps p → Any P (chain_segments ps)
    chain_at_vertex [] (k, h, e) = absurd (omega arith)
    chain_at_vertex (q ∷ []) (zero, h, e) = Any-here P (segment q q) [] (from_first q q e)
    chain_at_vertex (q ∷ []) (suc k, h, e) = absurd (omega arith)
    chain_at_vertex (q ∷ r ∷ rs) (zero, h, e) = Any-here P (segment q r) (links r rs) (from_first q r e)
    chain_at_vertex (q ∷ r ∷ rs) (suc k, h, e) = link_at_vertex q (r ∷ rs) (k, omega arith, e)

-- ---- the point touches the segment
at_begin : (p q : ℤ) → apart 1 0 0 p p p q ≡ pos 0
at_begin p q = ring (p ∷ q ∷ []) ((lit 1 ⊗ x0 ⊕ lit 0 ⊗ x0) ⊖ (lit 1 ⊗ x0 ⊕ lit 0 ⊗ x1)) (lit 0) tt

at_end : (p q : ℤ) → apart 1 0 1 p p q p ≡ pos 0
at_end p q = ring (p ∷ q ∷ []) ((lit 1 ⊗ x0 ⊕ lit 0 ⊗ x0) ⊖ (lit 0 ⊗ x1 ⊕ lit 1 ⊗ x0)) (lit 0) tt

begins : (p q : Point) (w : ℕ) → SegmentsTouch p p p q w
begins p q w = record {
  n = 1;
  s = 0;
  t = 0;
  some = omega arith;
  s_within = omega arith;
  t_within = omega arith;
  touch = at_nothing (apart 1 0 0 p.x p.x p.x q.x) (apart 1 0 0 p.y p.y p.y q.y) (w * w * (1 * 1)) (at_begin p.x q.x)
      (at_begin p.y q.y);
}

ends : (p q : Point) (w : ℕ) → SegmentsTouch p p q p w
ends p q w = record {
  n = 1;
  s = 0;
  t = 1;
  some = omega arith;
  s_within = omega arith;
  t_within = omega arith;
  touch = at_nothing (apart 1 0 1 p.x p.x q.x p.x) (apart 1 0 1 p.y p.y q.y p.y) (w * w * (1 * 1)) (at_end p.x q.x)
      (at_end p.y q.y);
}

pub vertex_covered : (p : Point) (ps : List Point) (w : ℕ) → Contains ps p → CoversBy p w (Chain ps)
vertex_covered p ps w h =
    inl (Any-here (TouchesSome w (Chain ps)) (segment p p) []
    (chain_at_vertex (Touches w (segment p p)) p (λ q. begins p q w) (λ q. ends p q w) ps h))
