use Rattle.std.proofs.Common.{sym, ◌∙◌, arith}
use Rattle.report_form.proofs.Apart.{writes_some, writes_none}
use Rattle.report_form.proofs.value.writes.Goals as goal

pub returns-in-Some : goal.returns-in-Some
returns-in-Some c = writes_some c.args.digits.now c.in-Some.value c.args.n c.requires (omega (arith, c.ranges.n))
    (sym c.exact.ensures ∙ c.in-Some.is)

pub returns-in-None : goal.returns-in-None
returns-in-None c = writes_none c.args.digits.now c.args.n (omega (arith, c.ranges.n))
    (sym c.exact.ensures ∙ c.in-None.is)
