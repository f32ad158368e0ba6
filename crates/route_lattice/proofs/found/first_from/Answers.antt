use Rattle.std.proofs.Common.{ℤ, int_lt, pos, arith, rules}
use Rattle.std.proofs.lemmas.List.Sorted.{IsPartitionPoint-from_clause}
use Rattle.route_lattice.proofs.Between.{parted_below, passes_lt, fails_lt}
use Rattle.route_lattice.proofs.found.first_from.Goals as goal

pub returns-clause-below : goal.returns-clause-below
returns-clause-below c =
    let point = IsPartitionPoint-from_clause (λ (z : ℤ). int_lt z c.args.low) c.args.lines.now c.partition_point.result
    c.partition_point.ensures.partitioned (parted_below c.args.lines.now c.args.low c.requires)
    (λ a r q k. search rules) in
    λ k h. passes_lt _ c.args.low (point.0 k (pos 0) (omega arith) h)

pub returns-clause-from : goal.returns-clause-from
returns-clause-from c =
    let point = IsPartitionPoint-from_clause (λ (z : ℤ). int_lt z c.args.low) c.args.lines.now c.partition_point.result
    c.partition_point.ensures.partitioned (parted_below c.args.lines.now c.args.low c.requires)
    (λ a r q k. search rules) in
    λ k h l. fails_lt _ c.args.low (point.1 k (pos 0) h l)
