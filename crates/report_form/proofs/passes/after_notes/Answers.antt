use Rattle.report_form.proofs.Steps.{notes_on, notes_stop}
use Rattle.report_form.proofs.passes.after_notes.Goals as goal

pub returns-in-Some : goal.returns-in-Some
returns-in-Some c = λ p page read. notes_on p read.told c.in-Some.field-0-0.now c.args.text.now c.in-Some.next.now page
    read.read c.in-Some.ensures

pub returns-in-None : goal.returns-in-None
returns-in-None c = λ p page read. notes_stop p read.told c.args.text.now read.read c.in-None.ensures
