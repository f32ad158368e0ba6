use Rattle.report_form.proofs.Fronts.{begin_alike}
use Rattle.report_form.proofs.laws.reports_begin_alike.Goals as goal

pub returns : goal.returns
returns c = begin_alike
