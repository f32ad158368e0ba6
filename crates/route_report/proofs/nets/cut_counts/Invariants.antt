use Rattle.std.proofs.Common.{◌≡◌, ℕ, ◌+◌, ◌<◌, length, get_or, drop, filter}
use Rattle.route_report.specs.Report.{is_of_net}
use Rattle.route_report.proofs.nets.cut_counts.Given as goal

-- the count of a net so far, and its cuts that are left
abbrev pub invariant-loop-cut : goal.invariant-loop-cut
invariant-loop-cut l = record {
  count_is : length l.counts.items ≡ l.nets;
  counts_are : (k : ℕ) → k < l.nets
      → get_or l.counts.items k 0 + length (filter (is_of_net k) (drop l.cut-index l.cuts))
      ≡ length (filter (is_of_net k) l.cuts);
}
