use Rattle.std.proofs.Common.{◌++◌, drop, flat_map}
use Rattle.ses_writer.proofs.Puts.{Leads}
use Rattle.route_report.specs.Report.{drop_line}
use Rattle.route_report.proofs.report.put_drops.Given as goal

abbrev pub invariant-loop-place : goal.invariant-loop-place
invariant-loop-place l =
    Leads l.out.items (flat_map drop_line (drop l.place-index l.places)) (l.fn.out.items ++ flat_map drop_line l.places)
