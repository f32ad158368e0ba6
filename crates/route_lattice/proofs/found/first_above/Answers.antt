use Rattle.std.proofs.Common.{ℤ, int_le, pos, arith, rules}
use Rattle.std.proofs.lemmas.List.Sorted.{IsPartitionPoint-from_clause}
use Rattle.route_lattice.proofs.Between.{parted_up_to, passes_le, fails_le}
use Rattle.route_lattice.proofs.found.first_above.Goals as goal

pub returns-clause-up_to : goal.returns-clause-up_to
returns-clause-up_to c =
    let point = IsPartitionPoint-from_clause (λ (z : ℤ). int_le z c.args.high) c.args.lines.now c.partition_point.result
    c.partition_point.ensures.partitioned (parted_up_to c.args.lines.now c.args.high c.requires)
    (λ a r q k. search rules) in
    λ k h. passes_le _ c.args.high (point.0 k (pos 0) (omega arith) h)

pub returns-clause-above : goal.returns-clause-above
returns-clause-above c =
    let point = IsPartitionPoint-from_clause (λ (z : ℤ). int_le z c.args.high) c.args.lines.now c.partition_point.result
    c.partition_point.ensures.partitioned (parted_up_to c.args.lines.now c.args.high c.requires)
    (λ a r q k. search rules) in
    λ k h l. fails_le _ c.args.high (point.1 k (pos 0) h l)
