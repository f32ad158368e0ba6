use Rattle.std.proofs.Common.{get_or, pos}
use Rattle.geo_kernel.specs.declared.point.Point.{Point}
use Rattle.pcb_model.specs.Scale.{is_whole_point}
use Rattle.pcb_model.proofs.Answered.{test_fails, test_passes, tests_pass, get_or_any}
use Rattle.pcb_model.proofs.scale.has_whole_points.Goals as goal

pub returns-then-not-has_whole_point : goal.returns-then-not-has_whole_point
returns-then-not-has_whole_point c =
    let first : Point = record { x = pos 0; y = pos 0 } in
    let x = get_or c.args.points.now c.loop-p.p-index first in
    test_fails (is_whole_point c.args.nm) c.args.points.now c.loop-p.p-index x c.has_whole_point.result
    c.loop-p-test.true (get_or_any c.args.points.now c.loop-p.p-index first x c.loop-p-test.true)
    c.has_whole_point.ensures c.if-not-has_whole_point.true c.loop-p.invariant

pub loop-p-preserved : goal.loop-p-preserved
loop-p-preserved c =
    let first : Point = record { x = pos 0; y = pos 0 } in
    let x = get_or c.args.points.now c.loop-p.p-index first in
    test_passes (is_whole_point c.args.nm) c.args.points.now c.loop-p.p-index x c.has_whole_point.result
    c.loop-p-test.true (get_or_any c.args.points.now c.loop-p.p-index first x c.loop-p-test.true)
    c.has_whole_point.ensures c.if-not-has_whole_point.false c.loop-p.invariant

pub returns : goal.returns
returns c =
    tests_pass (is_whole_point c.args.nm) c.args.points.now c.loop-p.p-index c.loop-p-test.false c.loop-p.invariant
