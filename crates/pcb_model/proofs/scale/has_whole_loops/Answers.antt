use Rattle.std.proofs.Common.{ap, ◌∙◌}
use Rattle.std.specs.List.{list_all}
use Rattle.pcb_model.specs.Scale.{is_whole_point}
use Rattle.pcb_model.proofs.Answered.{test_fails, test_passes, tests_pass}
use Rattle.pcb_model.proofs.scale.has_whole_loops.Goals as goal

pub returns-then-not-has_whole_points : goal.returns-then-not-has_whole_points
returns-then-not-has_whole_points c =
    test_fails (list_all (is_whole_point c.args.nm)) c.args.loops.now c.loop-points.points-index c.points-item.result
    c.has_whole_points.result c.loop-points-test.true c.points-item.is
    (c.has_whole_points.ensures ∙ ap (list_all (is_whole_point c.args.nm)) c.as_slice.ensures)
    c.if-not-has_whole_points.true c.loop-points.invariant

pub loop-points-preserved : goal.loop-points-preserved
loop-points-preserved c =
    test_passes (list_all (is_whole_point c.args.nm)) c.args.loops.now c.loop-points.points-index c.points-item.result
    c.has_whole_points.result c.loop-points-test.true c.points-item.is
    (c.has_whole_points.ensures ∙ ap (list_all (is_whole_point c.args.nm)) c.as_slice.ensures)
    c.if-not-has_whole_points.false c.loop-points.invariant

pub returns : goal.returns
returns c =
    tests_pass (list_all (is_whole_point c.args.nm)) c.args.loops.now c.loop-points.points-index
    c.loop-points-test.false c.loop-points.invariant
