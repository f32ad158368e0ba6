use Rattle.std.proofs.Common.{◌≡◌, drop}
use Rattle.route_report.specs.Report.{has_outside}
use Rattle.route_report.proofs.cuts.has_outside.Given as goal

abbrev pub invariant-loop-b : goal.invariant-loop-b
invariant-loop-b l = has_outside (drop l.b-index l.blocked) ≡ has_outside l.blocked
