use Rattle.std.proofs.Common.{pos, ◌∙◌}
use Rattle.geo_kernel.proofs.Growing.{box_is_of}
use Rattle.route_lattice.proofs.Outlines.{widened_more}
use Rattle.route_lattice.proofs.outline.grown.Goals as goal

pub loop-p-preserved : goal.loop-p-preserved
loop-p-preserved c =
    let w = c.grown_by-r.ensures in
    box_is_of _ _ _ _ _ _ _ _ w.x0 w.y0 w.x1 w.y1 ∙ widened_more _ c.loop-p.r c.args.points.now c.loop-p.p-index
    (record { x = pos 0; y = pos 0 }) c.loop-p-test.true c.loop-p.invariant
