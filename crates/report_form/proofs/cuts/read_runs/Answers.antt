use Rattle.std.proofs.Common.{◌≡◌, length, arith}
use Rattle.report_form.proofs.Loops.{runs_over}
use Rattle.report_form.proofs.cuts.read_runs.Goals as goal

pub returns-clause-read : goal.returns-clause-read
returns-clause-read c = λ p h ns w cs k page read.
    let all : c.loop-taken._taken ≡ length c.args.text.now = omega arith in
    let none : length c.loop-taken.left.now ≡ 0 = omega (arith, all, c.loop-taken.invariant.shorter) in
    runs_over p h ns w cs k c.loop-taken.runs c.loop-taken.left.now
    (c.loop-taken.invariant.read p h ns w cs k page read) none

pub returns-in-Err-clause-read : goal.returns-in-Err-clause-read
returns-in-Err-clause-read c = λ p h ns w cs k page read.
    c.in-Err.ensures.read p h ns w cs k page (c.loop-taken.invariant.read p h ns w cs k page read)
    (c.begins_with.ensures.0 c.if-not-begins_with.false)
