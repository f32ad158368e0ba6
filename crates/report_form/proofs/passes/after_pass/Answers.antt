use Rattle.std.proofs.Common.{arith}
use Rattle.std.specs.Prelude.{decimal}
use Rattle.std.proofs.lemmas.Bool.{both_ways}
use Rattle.report_form.proofs.Printed.{pass_from, pass_three}
use Rattle.report_form.proofs.Apart.{pass_apart}
use Rattle.report_form.proofs.passes.after_pass.Goals as goal

pub returns-in_err-line : goal.returns-in_err-line
returns-in_err-line c = rw c.from_residual.ensures (λ a b r h. c.in_err-line.ensures (decimal c.args.number) a b r
    (pass_three c.args.number a b r c.args.text.now (omega (arith, c.ranges.number)) h))

pub returns-then-writes : goal.returns-then-writes
returns-then-writes c =
    let line = c.in_ok-line.line in record {
      a = line.b.now;
      b = line.c.now;
      has = pass_from c.args.number line.a.now line.b.now line.c.now line.rest.now c.args.text.now c.in_ok-line.ensures
          (c.writes.ensures.0 c.if-writes.true);
    }

pub returns-else-writes : goal.returns-else-writes
returns-else-writes c = λ a b r h.
    let line = c.in_ok-line.line in
    both_ways c.writes.result c.if-writes.false (c.writes.ensures.1 (pass_apart c.args.number line.a.now line.b.now
    line.c.now line.rest.now a b r c.args.text.now (omega (arith, c.ranges.number)) c.in_ok-line.ensures h))
