use Rattle.std.proofs.Common.{List, sym, subst}
use Rattle.std.proofs.lemmas.Bool.{both_ways}
use Rattle.report_form.specs.declared.reading.ReadRun.{ReadRun}
use Rattle.report_form.specs.inner.Halts.{RunsRead}
use Rattle.report_form.proofs.Parts.{late_stop, run_on, run_stop}
use Rattle.report_form.proofs.cuts.next_run.Goals as goal

pub returns-then-begins_with-clause-read : goal.returns-then-begins_with-clause-read
returns-then-begins_with-clause-read c = λ p h ns w cs k page read first.
    late_stop p h ns w cs k c.args.runs.now c.in-Some.line.run c.args.text.now c.in-Some.line.rest.now page read
    c.in-Some.ensures (c.begins_with.ensures.0 c.if-begins_with.true)

pub returns-clause-read : goal.returns-clause-read
returns-clause-read c = λ p h ns w cs k page read first.
    subst (λ (rs : List ReadRun). RunsRead p h ns w cs k rs c.in-Some.line.rest.now) (sym c.in_ok-push.ensures)
    (run_on p h ns w cs k c.args.runs.now c.in-Some.line.run c.args.text.now c.in-Some.line.rest.now page read
    c.in-Some.ensures (λ h. both_ways c.begins_with.result c.if-begins_with.false (c.begins_with.ensures.1 h)))

pub returns-in_default-clause-read : goal.returns-in_default-clause-read
returns-in_default-clause-read c = λ p h ns w cs k page read first.
    run_stop p h ns w cs k c.args.runs.now c.args.text.now read first c.in_default.ensures
