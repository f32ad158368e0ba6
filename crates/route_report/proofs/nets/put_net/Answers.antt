use Rattle.route_report.specs.Report.{net_line}
use Rattle.ses_writer.proofs.Puts.{then_put}
use Rattle.route_report.proofs.Lasts.{put_last}
use Rattle.route_report.proofs.nets.put_net.Goals as goal

pub returns : goal.returns
unfolding net_line
returns c =
    let name = rw c.as_slice.ensures at c.in_ok-put_word.ensures in
    let two = then_put c.in_ok-put.ensures name in
    let three = then_put two c.in_ok-put_verdict.ensures in
    put_last c.put-2.result _ _ three c.put-2.ensures
