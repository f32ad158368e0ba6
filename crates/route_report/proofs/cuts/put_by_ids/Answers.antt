use Rattle.std.proofs.Common.{sym, ◌∙◌}
use Rattle.std.proofs.lemmas.List.{append-nil}
use Rattle.ses_writer.proofs.Puts.{leads_on}
use Rattle.route_report.specs.Report.{by_line}
use Rattle.route_report.proofs.Named.{lines_more, lines_none}
use Rattle.route_report.proofs.cuts.put_by_ids.Goals as goal

pub loop-id-preserved : goal.loop-id-preserved
loop-id-preserved c =
    let so_far = rw (lines_more by_line c.args.ids.now c.loop-id.id-index c.args.copper.now.items c.loop-id-test.true
    c.requires c.in_order.ensures.ascends) at c.loop-id.invariant in
    leads_on so_far c.in_ok-put_by_id.ensures

pub returns : goal.returns
returns c =
    let all = rw (lines_none by_line c.args.ids.now c.loop-id.id-index c.args.copper.now.items c.loop-id-test.false)
    at c.loop-id.invariant in
    record { is = sym (append-nil c.loop-id.out.items) ∙ all.is }
