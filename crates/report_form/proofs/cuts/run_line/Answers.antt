use Rattle.report_form.proofs.Printed.{run_four, run_from}
use Rattle.report_form.proofs.cuts.run_line.Goals as goal

pub returns-in_err-line : goal.returns-in_err-line
returns-in_err-line c = rw c.from_residual.ensures (λ run r h. c.in_err-line.ensures run.level run.row run.first
    run.last r (run_four run r c.args.text.now h))

pub returns : goal.returns
returns c =
    let line = c.in_ok-line.line in record {
      told = record { level = line.a.now; row = line.b.now; first = line.c.now; last = line.e.now };
      has = run_from line.a.now line.b.now line.c.now line.e.now line.rest.now c.args.text.now c.in_ok-line.ensures;
      kept = λ i. record {
        level = c.capped_short.ensures i;
        row = c.capped_short-2.ensures i;
        first = c.capped_short-3.ensures i;
        last = c.capped_short-4.ensures i;
      };
    }
