use Rattle.std.proofs.Common.{◌++◌, drop, flat_map}
use Rattle.std.specs.List.{enumerate_from}
use Rattle.ses_writer.proofs.Puts.{Leads}
use Rattle.route_report.specs.inner.Tallies.{told_lines}
use Rattle.route_report.proofs.nets.put_told.Given as goal

abbrev pub invariant-loop-i : goal.invariant-loop-i
invariant-loop-i l =
    Leads l.out.items (flat_map (told_lines l.counts l.texts) (enumerate_from l.i (drop l.i l.nets)))
    (l.fn.out.items ++ flat_map (told_lines l.counts l.texts) (enumerate_from 0 l.nets))
