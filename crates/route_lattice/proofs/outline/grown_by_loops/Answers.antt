use Rattle.std.proofs.Common.{◌∙◌}
use Rattle.route_lattice.proofs.Outlines.{widened_loops}
use Rattle.route_lattice.proofs.outline.grown_by_loops.Goals as goal

pub loop-points-preserved : goal.loop-points-preserved
loop-points-preserved c =
    c.grown-r.ensures ∙ widened_loops _ c.loop-points.r c.args.loops.now c.loop-points.points-index c.points-item.result
    _ c.loop-points-test.true (c.as_slice.ensures ∙ c.points-item.is) c.loop-points.invariant
