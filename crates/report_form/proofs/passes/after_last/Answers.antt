use Rattle.report_form.proofs.Steps.{joins_on, joins_stop}
use Rattle.report_form.proofs.passes.after_last.Goals as goal

pub returns-in-Some : goal.returns-in-Some
returns-in-Some c = λ p h page at.
    joins_on p h c.in-Some.field-0-0.now c.args.text.now c.in-Some.next.now page at c.in-Some.ensures

pub returns-in-None : goal.returns-in-None
returns-in-None c = λ p h page at. joins_stop p h c.args.text.now at c.in-None.ensures
