use Rattle.std.proofs.Common.{◌++◌, drop}
use Rattle.ses_writer.proofs.Puts.{Leads}
use Rattle.route_report.specs.Report.{stretches_from}
use Rattle.route_report.proofs.stretches.put_stretches_from.Given as goal

abbrev pub invariant-loop-next : goal.invariant-loop-next
invariant-loop-next l =
    Leads l.out.items (stretches_from l.lat l.first l.last (drop l.next-index l.others))
    (l.fn.out.items ++ stretches_from l.lat l.fn.node l.fn.node l.others)
