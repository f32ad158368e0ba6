use Rattle.route_report.specs.Report.{pass_line}
use Rattle.route_report.proofs.Lasts.{two_last}
use Rattle.route_report.proofs.report.put_pass.Goals as goal

pub returns : goal.returns
unfolding pass_line
returns c = two_last c.put_pair.result _ _ _ c.in_ok-put_counted.ensures c.put_pair.ensures
