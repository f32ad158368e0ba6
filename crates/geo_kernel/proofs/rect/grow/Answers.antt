use Rattle.std.proofs.Common.{pos}
use Rattle.geo_kernel.proofs.Growing.{grown_next, box_is_of}
use Rattle.geo_kernel.proofs.rect.grow.Goals as goal

pub loop-p-preserved : goal.loop-p-preserved
loop-p-preserved c =
    let w = c.widened-r.ensures in
    grown_next _ c.loop-p.r c.widened-r.result c.args.points.now c.loop-p.p-index (record { x = pos 0; y = pos 0 })
    c.loop-p-test.true (box_is_of _ _ _ _ _ _ _ _ w.x0 w.y0 w.x1 w.y1) c.loop-p.invariant
