use Rattle.std.proofs.Common.{◌≡◌}
use Rattle.route_lattice.specs.Mesh.{level, row}
use Rattle.route_report.specs.Report.{stretch_line, counted, count_line}
use Rattle.std.specs.Prelude.{codes}
use Rattle.ses_writer.proofs.Puts.{then_put}
use Rattle.route_report.proofs.Lasts.{two_last}
use Rattle.route_report.proofs.stretches.put_stretch.Goals as goal

pub returns : goal.returns
unfolding stretch_line
returns c =
    let two = then_put c.in_ok-put_counted.ensures c.in_ok-put_counted-2.ensures in
    let all = two_last c.put_pair.result c.put_pair.new.out.items (counted (codes " ") c.column.result)
    (count_line (codes " ") c.column-2.result) two c.put_pair.ensures in
    let level_is : c.quotient.result ≡ level c.args.lat.now c.args.first = cc in
    let row_is : c.remainder.result ≡ row c.args.lat.now c.args.first = cc in
    rw (level_is, row_is, c.column.ensures, c.column-2.ensures) at all
