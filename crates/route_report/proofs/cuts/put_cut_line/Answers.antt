use Rattle.route_report.specs.Report.{cut_line, counted, count_line}
use Rattle.std.specs.Prelude.{codes}
use Rattle.ses_writer.proofs.Puts.{then_put}
use Rattle.route_report.proofs.Lasts.{two_last}
use Rattle.route_report.proofs.cuts.put_cut_line.Goals as goal

pub returns : goal.returns
unfolding cut_line
returns c =
    let two = then_put c.in_ok-put.ensures c.in_ok-put_pin_word.ensures in
    let all = two_last c.put_pair.result c.put_pair.new.out.items (counted (codes " reached ") c.len-reached.result)
    (count_line (codes " blocked ") c.len.result) two c.put_pair.ensures in
    rw (c.len-reached.ensures, c.len.ensures) at all
