use Rattle.std.proofs.Common.{◌++◌, drop, filter, flat_map}
use Rattle.ses_writer.proofs.Puts.{Leads}
use Rattle.route_report.specs.Report.{by_line}
use Rattle.route_report.specs.inner.Naming.{is_among}
use Rattle.route_report.proofs.cuts.put_by_ids.Given as goal

-- what is told, and the items of the ids that are left
abbrev pub invariant-loop-id : goal.invariant-loop-id
invariant-loop-id l =
    Leads l.out.items (flat_map by_line (filter (is_among (drop l.id-index l.ids)) l.copper.items))
    (l.fn.out.items ++ flat_map by_line (filter (is_among l.ids) l.copper.items))
