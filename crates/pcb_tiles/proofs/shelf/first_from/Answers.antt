use Rattle.std.proofs.Common.{◌<◌, length, arith, sym, subst, Some, None}
use Rattle.pcb_model.specs.Copper.{Ascends, IsFirstFrom}
use Rattle.pcb_model.proofs.First.{first_is as first_of_items}
use Rattle.pcb_tiles.proofs.Shelves.{chunk_ascends, first_is}
use Rattle.pcb_tiles.proofs.shelf.first_from.Goals as goal

pub place_of-i-requires : goal.place_of-i-requires
place_of-i-requires c =
    subst Ascends (sym c.chunk_at-items.ensures) (chunk_ascends c.args.chunks.now c.home_of.result c.requires.ascends)

pub returns-then-i-items : goal.returns-then-i-items
returns-then-i-items c =
    first_is c.args.chunks.now c.args.from c.home_of.result c.chunk_at-items.result.now None
    c.requires.ascends c.requires.each c.home_of.ensures c.chunk_at-items.ensures
    (λ k d h. c.place_of-i.ensures.below k d (omega (arith, h, c.if-i-items.true)))

pub returns : goal.returns
returns c =
    let n = c.if-i-items.false in
    let within : c.place_of-i.result < length c.chunk_at-items.result.now =
    omega (arith, n, c.place_of-i.ensures.bound) in
    let F = IsFirstFrom c.args.from c.chunk_at-items.result.now in
    first_is c.args.chunks.now c.args.from c.home_of.result c.chunk_at-items.result.now (Some c.get.result.now)
    c.requires.ascends c.requires.each c.home_of.ensures c.chunk_at-items.ensures
    (subst F (sym c.get.ensures)
    (first_of_items c.chunk_at-items.result.now c.args.from c.place_of-i.result c.index-items-i.result
    (subst Ascends (sym c.chunk_at-items.ensures)
    (chunk_ascends c.args.chunks.now c.home_of.result c.requires.ascends)) within c.index-items-i.is
    c.place_of-i.ensures.below
    (c.place_of-i.ensures.above c.place_of-i.result c.index-items-i.result (omega arith) within)))
