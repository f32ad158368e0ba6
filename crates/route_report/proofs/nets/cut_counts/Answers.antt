use Rattle.std.proofs.Common.{◌≡◌, ◌≤◌, ◌∙◌, ℕ, List, ap, replicate, length, get_or, filter, arith}
use Rattle.std.proofs.lemmas.List.{get_or_default, get_or-replicate, length-replicate}
use Rattle.std.proofs.lemmas.List.Sums.{length-filter, count_by-le-length}
use Rattle.route_report.specs.Report.{is_of_net}
use Rattle.route_report.proofs.Tallied.{all_counted, counted_more, none_counted}
use Rattle.route_report.proofs.nets.cut_counts.Goals as goal

pub add_one-requires : goal.add_one-requires
add_one-requires c = λ k d within.
    let counts = c.loop-cut.counts.items in
    let so_far = c.loop-cut.invariant.counts_are k (omega (arith, within, c.loop-cut.invariant.count_is)) in
    let all : length (filter (is_of_net k) c.args.cuts.now) ≤ length c.args.cuts.now =
    omega (arith, length-filter (is_of_net k) c.args.cuts.now, count_by-le-length (is_of_net k) c.args.cuts.now) in
    omega (arith, so_far, all, get_or_default counts k 0 d within)

pub loop-cut-preserved : goal.loop-cut-preserved
loop-cut-preserved c =
    let i = c.loop-cut.cut-index in
    let before = c.loop-cut.invariant in
    let adds = c.add_one.ensures in
    record {
      count_is = adds.count_is ∙ before.count_is;
      counts_are = λ k within.
          counted_more k _ c.args.cuts.now i c.cut-item.result (get_or c.loop-cut.counts.items k 0)
          (get_or c.add_one.new.numbers.items k 0) c.loop-cut-test.true c.cut-item.is
          (adds.numbers_are k (omega (arith, within, before.count_is))) (before.counts_are k within);
    }

pub loop-cut-init : goal.loop-cut-init
loop-cut-init c =
    let zeros : c.in_ok-counts.counts.items ≡ replicate c.args.nets 0 =
    c.in_ok-counts.ensures.items_if_clones_equal (λ y e. e) in
    record {
      count_is = ap length zeros ∙ length-replicate c.args.nets 0;
      counts_are = λ k within.
          none_counted (length (filter (is_of_net k) c.args.cuts.now))
          (ap (λ (ns : List ℕ). get_or ns k 0) zeros ∙ get_or-replicate c.args.nets k 0 0 within);
    }

pub returns : goal.returns
returns c = record {
  count_is = c.loop-cut.invariant.count_is;
  counts_are = λ k within. all_counted k c.args.cuts.now c.loop-cut.cut-index _ _
      (omega (arith, c.loop-cut-test.false)) (c.loop-cut.invariant.counts_are k within);
}
