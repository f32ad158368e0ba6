use Rattle.std.proofs.Common.{arith}
use Rattle.pcb_tiles.proofs.Nearness.{own_is}
use Rattle.pcb_tiles.proofs.parts.own_block_of.Goals as goal

pub returns : goal.returns
returns c =
    own_is c.args.area c.of_item-e.result c.block_around.result c.args.a.now c.block_around.ensures.of (omega arith)
    c.of_item-e.ensures.least
