use Rattle.std.proofs.Common.{◌≡◌, ◌<◌, ◌^◌, ℕ, Option, arith, subst}
use Rattle.report_form.specs.declared.reading.GridLine.{GridLine}
use Rattle.report_form.specs.Reading.{IsMisread}
use Rattle.route_check.proofs.judging.true_line.Goals as goal

pub returns-in_ok-nodes_of-in-None : goal.returns-in_ok-nodes_of-in-None
returns-in_ok-nodes_of-in-None c = λ firsts text h.
    subst (λ (passed : Option GridLine). IsMisread c.args.d.now firsts text c.args.line passed) c.in-None.is h 409600000
    (omega arith) (omega arith)
    (subst (λ (n : ℕ). n < 2 ^ 128) c.in_ok-nodes_of-in-None.ensures.is c.in_ok-nodes_of-in-None.ensures.few)
