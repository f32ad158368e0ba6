use Rattle.route_report.proofs.Longest.{longest}
use Rattle.route_report.proofs.stretches.stretches_are_longest.Goals as goal

pub returns : goal.returns
returns c = longest
