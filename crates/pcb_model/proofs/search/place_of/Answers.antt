use Rattle.std.proofs.Common.{ℕ, ltb, ltb-true, ltb-false, arith, rules}
use Rattle.std.proofs.lemmas.List.Sorted.{IsPartitionPoint-from_clause, IsPartitionedBy-ltb}
use Rattle.pcb_model.specs.declared.item.Item.{Item}
use Rattle.pcb_model.proofs.First.{rises}
use Rattle.pcb_model.proofs.search.place_of.Goals as goal

pub returns-clause-below : goal.returns-clause-below
returns-clause-below c =
    let n : Item → ℕ = λ b. b.id in
    let point = IsPartitionPoint-from_clause (λ (b : Item). ltb b.id c.args.id) c.args.items.now
    c.partition_point.result c.partition_point.ensures.partitioned
    (IsPartitionedBy-ltb n c.args.items.now c.args.id (rises c.args.items.now c.requires))
    (λ a r q k. search rules) in
    λ k d h. ltb-true _ _ (point.0 k d (omega arith) h)

pub returns-clause-above : goal.returns-clause-above
returns-clause-above c =
    let n : Item → ℕ = λ b. b.id in
    let point = IsPartitionPoint-from_clause (λ (b : Item). ltb b.id c.args.id) c.args.items.now
    c.partition_point.result c.partition_point.ensures.partitioned
    (IsPartitionedBy-ltb n c.args.items.now c.args.id (rises c.args.items.now c.requires))
    (λ a r q k. search rules) in
    λ k d h l. ltb-false _ _ (point.1 k d h l)
