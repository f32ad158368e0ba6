use Rattle.std.proofs.Common.{◌≡◌, ◌-◌, ◌==◌, length, filter, arith}
use Rattle.std.specs.List.{count_by, enumerate_from}
use Rattle.std.proofs.lemmas.List.Sums.{count_by-le-length}
use Rattle.route_report.specs.Report.{total_line, is_complete, is_open}
use Rattle.route_report.proofs.Counted.{all_counted, completes, opens}
use Rattle.route_report.proofs.nets.put_totals.Goals as goal

pub overflow_sub-others : goal.overflow_sub-others
overflow_sub-others c =
    let counts = c.in_ok-counts.counts.items in
    let zeros : c.zeros-complete.result ≡ count_by (λ n. n == 0) counts = cc in
    omega (arith, zeros, count_by-le-length (λ n. n == 0) counts, c.len-2.ensures)

pub returns : goal.returns
unfolding total_line
returns c =
    let facts = c.args.facts.now in
    let nets = c.args.d.now.nets in
    let counts = c.in_ok-counts.counts.items in
    let are = rw (c.as_slice.ensures, c.len.ensures) at c.in_ok-counts.ensures in
    let zeros : c.zeros-complete.result ≡ count_by (λ n. n == 0) counts = cc in
    let complete : c.zeros-complete.result ≡ length (filter (is_complete facts) (enumerate_from 0 nets)) =
    cc (completes facts nets counts are) in
    let open_ones : c.len-2.result - c.zeros-complete.result
    ≡ length (filter (is_open facts) (enumerate_from 0 nets)) =
    omega (arith, zeros, all_counted (λ n. n == 0) counts, opens facts nets counts are, c.len-2.ensures) in
    rw (open_ones, complete) at c.put_pair.ensures
