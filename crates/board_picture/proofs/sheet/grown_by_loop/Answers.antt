use Rattle.std.proofs.Common.{pos, ◌∙◌}
use Rattle.geo_kernel.proofs.Growing.{box_is_of}
use Rattle.board_picture.proofs.Boxes.{grown_more}
use Rattle.board_picture.proofs.sheet.grown_by_loop.Goals as goal

pub loop-p-preserved : goal.loop-p-preserved
loop-p-preserved c =
    let w = c.grown-all.ensures in
    box_is_of _ _ _ _ _ _ _ _ w.x0 w.y0 w.x1 w.y1
    ∙ grown_more c.args.b c.loop-p.all c.args.points.now c.loop-p.p-index (record { x = pos 0; y = pos 0 })
    c.loop-p-test.true c.loop-p.invariant
