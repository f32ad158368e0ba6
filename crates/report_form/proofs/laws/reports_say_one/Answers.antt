use Rattle.report_form.proofs.Agree.{one_told}
use Rattle.report_form.proofs.laws.reports_say_one.Goals as goal

pub returns : goal.returns
returns c = one_told
