use Rattle.std.proofs.Common.{◌≡◌, arith, ap}
use Rattle.pcb_tiles.specs.Tiling.{own_block, entries_in}
use Rattle.pcb_tiles.proofs.Nearness.{touch_finds, own_is}
use Rattle.pcb_tiles.proofs.tiles.TilesCopper.next_touch.Goals as goal

pub returns-clause-finds : goal.returns-clause-finds
returns-clause-finds g c =
    touch_finds c.args.self.now.area c.of_item-e.result c.block_around-b.result c.args.a.now
    c.args.self.now.items c.args.from
    c.seek.result c.block_around-b.ensures.of (omega arith) c.block_around-b.ensures.area c.of_item-e.ensures.has
    c.block_around-b.ensures.fit c.seek.ensures.so

pub returns-clause-cost : goal.returns-clause-cost
returns-clause-cost g c =
    let b : c.block_around-b.result ≡ own_block c.args.self.now.area c.args.a.now =
    own_is c.args.self.now.area c.of_item-e.result c.block_around-b.result c.args.a.now
    c.block_around-b.ensures.of (omega arith) c.of_item-e.ensures.least in
    let n = ap (entries_in c.args.self.now.area c.args.self.now.items) b in
    omega (arith, n, c.seek.ensures.cost)
