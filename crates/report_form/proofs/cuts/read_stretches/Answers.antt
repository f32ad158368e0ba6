use Rattle.std.proofs.Common.{List, refl, sym, subst}
use Rattle.report_form.specs.declared.reading.ReadRun.{ReadRun}
use Rattle.report_form.specs.inner.Halts.{RunsRead}
use Rattle.report_form.proofs.Parts.{runs_start}
use Rattle.report_form.proofs.cuts.read_stretches.Goals as goal

pub returns-in-Ok-clause-read : goal.returns-in-Ok-clause-read
returns-in-Ok-clause-read c = λ p h ns w cs k page read. record {
  parts = c.in-Ok.ensures.read p h ns w cs k page (subst (λ (rs : List ReadRun). RunsRead p h ns w cs k rs
      c.args.text.now) (sym c.new-runs.ensures) (runs_start p h ns w cs k c.args.text.now read));
  named = refl;
  reached = refl;
  blocked = refl;
}

pub returns-in-Err-clause-read : goal.returns-in-Err-clause-read
returns-in-Err-clause-read c = λ p h ns w cs k page read. c.in-Err.ensures.read p h ns w cs k page
    (subst (λ (rs : List ReadRun). RunsRead p h ns w cs k rs c.args.text.now) (sym c.new-runs.ensures)
    (runs_start p h ns w cs k c.args.text.now read))
