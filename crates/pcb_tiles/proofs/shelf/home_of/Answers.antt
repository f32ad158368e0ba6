use Rattle.std.proofs.Common.{List, ltb, ltb-true, ltb-false, arith, rules}
use Rattle.std.proofs.lemmas.List.Sorted.{IsPartitionPoint-from_clause, IsPartitionedBy-ltb}
use Rattle.pcb_model.specs.declared.item.Item.{Item}
use Rattle.pcb_tiles.specs.Shelves.{last_id}
use Rattle.pcb_tiles.proofs.Shelves.{chunks_rise, home_is}
use Rattle.pcb_tiles.proofs.shelf.home_of.Goals as goal

pub returns : goal.returns
returns c =
    let point = IsPartitionPoint-from_clause (λ (x : List Item). ltb (last_id x) c.args.id) c.args.chunks.now
    c.partition_point.result c.partition_point.ensures.partitioned
    (IsPartitionedBy-ltb last_id c.args.chunks.now c.args.id
    (chunks_rise c.args.chunks.now c.requires.ascends c.requires.each))
    (λ a r q k. search rules) in
    home_is c.args.chunks.now c.args.id c.partition_point.result c.partition_point.ensures.bound
    (λ j d h. ltb-true _ _ (point.0 j d (omega arith) h)) (λ j d h l. ltb-false _ _ (point.1 j d h l))
