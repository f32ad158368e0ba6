use Rattle.std.proofs.Common.{sym, ◌∙◌, true≢false, pos, refl}
use Rattle.geo_kernel.specs.Spine.{Touches}
use Rattle.geo_kernel.proofs.Paths.{any_next, any_stops}
use Rattle.route_lattice.proofs.touch.touches_path.Goals as goal

pub returns-then-seg_touches : goal.returns-then-seg_touches
returns-then-seg_touches c = (
  λ t. any_stops (Touches c.args.k (record { from = c.args.p; to = c.args.p })) c.args.start c.loop-q.last
      (record { x = pos 0; y = pos 0 }) c.args.points.now c.loop-q.q-index
      c.loop-q.invariant.1 c.loop-q-test.true (c.seg_touches.ensures.0 c.if-seg_touches.true),
  λ h. refl,
)

pub loop-q-preserved : goal.loop-q-preserved
loop-q-preserved c = (
  c.requires.points_within c.loop-q.q-index _ c.loop-q-test.true,
  any_next (Touches c.args.k (record { from = c.args.p; to = c.args.p })) c.args.start c.loop-q.last
      (record { x = pos 0; y = pos 0 }) c.args.points.now c.loop-q.q-index
      c.loop-q.invariant.1 c.loop-q-test.true
      (λ x. true≢false (sym (c.seg_touches.ensures.1 x) ∙ c.if-seg_touches.false)),
)
