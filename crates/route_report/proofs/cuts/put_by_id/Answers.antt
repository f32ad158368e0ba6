use Rattle.std.proofs.Common.{sym}
use Rattle.std.proofs.lemmas.List.{append-nil}
use Rattle.route_report.specs.Report.{by_line}
use Rattle.route_report.proofs.Lasts.{put_last}
use Rattle.route_report.proofs.Named.{none_has, lines_of_one}
use Rattle.route_report.proofs.cuts.put_by_id.Goals as goal

pub returns-in_ok-put_kind-in-Some : goal.returns-in_ok-put_kind-in-Some
unfolding by_line
returns-in_ok-put_kind-in-Some c =
    rw (lines_of_one by_line c.args.copper.now.items c.args.id c.in-Some.item.now c.in_order.ensures.ascends
    c.in-Some.ensures.0 c.in-Some.ensures.1)
    (put_last c.put_count.result _ _ c.in_ok-put_kind-in-Some.ensures c.put_count.ensures)

pub returns-in-None : goal.returns-in-None
returns-in-None c =
    rw (none_has c.args.copper.now.items c.args.id c.in-None.ensures)
    (record { is = sym (append-nil c.args.out.now.items) })
