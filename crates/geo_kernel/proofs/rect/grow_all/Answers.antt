use Rattle.std.proofs.Common.{◌∙◌}
use Rattle.geo_kernel.proofs.Growing.{grown_more}
use Rattle.geo_kernel.proofs.rect.grow_all.Goals as goal

pub loop-points-preserved : goal.loop-points-preserved
loop-points-preserved c =
    grown_more _ c.loop-points.r c.grow-r.result c.args.loops.now c.loop-points.points-index c.points-item.result _
    c.loop-points-test.true (c.as_slice.ensures ∙ c.points-item.is) c.grow-r.ensures c.loop-points.invariant
