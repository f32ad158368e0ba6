use Rattle.std.proofs.Common.{◌∙◌}
use Rattle.pcb_model.proofs.Lookups.{copied_more}
use Rattle.std.proofs.lemmas.List.{take_all}
use Rattle.pcb_model.proofs.make.copy_loops.Goals as goal

pub loop-points-preserved : goal.loop-points-preserved
loop-points-preserved c =
    c.in_ok-push.ensures.ok
    ∙ copied_more c.args.loops.now c.loop-points.points-index c.points-item.result c.loop-points.copies
    c.in_ok-from_slice.field-0 c.loop-points-test.true c.points-item.is c.loop-points.invariant
    (c.in_ok-from_slice.ensures ∙ c.as_slice.ensures)

pub returns : goal.returns
returns c = c.loop-points.invariant ∙ take_all c.loop-points.points-index c.args.loops.now c.loop-points-test.false
