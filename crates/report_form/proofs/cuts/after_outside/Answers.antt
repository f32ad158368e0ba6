use Rattle.report_form.proofs.Parts.{outside_on, no_outside}
use Rattle.report_form.proofs.cuts.after_outside.Goals as goal

pub returns-in-Some-clause-read : goal.returns-in-Some-clause-read
returns-in-Some-clause-read c = λ p h ns w cs k page read.
    outside_on p h ns w cs k c.args.text.now c.in-Some.next.now page read c.in-Some.ensures

pub returns-in-None-clause-read : goal.returns-in-None-clause-read
returns-in-None-clause-read c = λ p h ns w cs k page read.
    no_outside p h ns w cs k c.args.text.now read c.in-None.ensures
