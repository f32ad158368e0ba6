use Rattle.route_report.specs.Report.{report_of}
use Rattle.ses_writer.proofs.Puts.{then_put}
use Rattle.route_report.proofs.Lasts.{put_last}
use Rattle.route_report.proofs.report.put_report.Goals as goal

pub returns : goal.returns
unfolding report_of
returns c =
    let two = then_put c.in_ok-put_head.ensures c.in_ok-put_run.ensures in
    let three = then_put two c.in_ok-put_nets.ensures in
    put_last c.put_totals.result _ _ three c.put_totals.ensures
