use Rattle.std.proofs.Common.{map, ap, ◌∙◌}
use Rattle.geo_kernel.specs.Moved.{moved}
use Rattle.pcb_model.proofs.Lookups.{mapped_more}
use Rattle.std.proofs.lemmas.List.{take_all}
use Rattle.pcb_model.proofs.make.move_loops.Goals as goal

pub loop-points-preserved : goal.loop-points-preserved
loop-points-preserved c =
    c.in_ok-push.ensures.ok
    ∙ mapped_more (map (moved c.args.by)) c.args.loops.now c.loop-points.points-index c.points-item.result
    c.loop-points.moved c.in_ok-move_points.field-0 c.loop-points-test.true c.points-item.is c.loop-points.invariant
    (c.in_ok-move_points.ensures ∙ ap (map (moved c.args.by)) c.as_slice.ensures)

pub returns : goal.returns
returns c =
    c.loop-points.invariant
    ∙ ap (map (map (moved c.args.by))) (take_all c.loop-points.points-index c.args.loops.now c.loop-points-test.false)
