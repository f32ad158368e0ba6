use Rattle.std.proofs.Common.{◌+◌, ◌++◌, drop, flat_map}
use Rattle.std.specs.List.{enumerate_from}
use Rattle.ses_writer.proofs.Puts.{Leads}
use Rattle.route_report.specs.Report.{pass_line, pass_lines}
use Rattle.route_report.proofs.report.put_passes.Given as goal

abbrev pub invariant-loop-i : goal.invariant-loop-i
invariant-loop-i l =
    Leads l.out.items (flat_map pass_line (enumerate_from (l.i + 1) (drop l.i l.passes)))
    (l.fn.out.items ++ pass_lines l.passes)
