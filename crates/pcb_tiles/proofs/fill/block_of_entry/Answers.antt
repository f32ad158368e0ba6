use Rattle.std.proofs.Common.{arith}
use Rattle.pcb_tiles.proofs.Filling.{box_within, extent_is, width_within}
use Rattle.pcb_tiles.proofs.Nearness.{own_is}
use Rattle.pcb_tiles.proofs.fill.block_of_entry.Goals as goal

pub overflow_add-e : goal.overflow_add-e
overflow_add-e c = let w = width_within c.args.e.now c.requires.made in omega (arith, w)

pub block_around-requires-clause-bounds_within : goal.block_around-requires-clause-bounds_within
block_around-requires-clause-bounds_within c = box_within c.args.e.now c.requires.made

pub block_around-requires-clause-by_within : goal.block_around-requires-clause-by_within
block_around-requires-clause-by_within c =
    let w = width_within c.args.e.now c.requires.made in omega (arith, w)

pub returns-clause-is : goal.returns-clause-is
returns-clause-is c =
    own_is c.args.area c.args.e.now.extent c.block_around.result c.args.e.now.item c.block_around.ensures.of
    (omega arith) (extent_is c.args.e.now c.requires.made)
