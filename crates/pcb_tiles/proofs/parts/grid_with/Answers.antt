use Rattle.std.proofs.lemmas.Result.{IfOk-weaker}
use Rattle.pcb_tiles.proofs.Changes.{grid_put_is}
use Rattle.pcb_tiles.specs.Shelves.{flat}
use Rattle.pcb_tiles.proofs.parts.grid_with.Goals as goal

pub returns : goal.returns
returns c = IfOk-weaker _ _ _ (λ after is.
    grid_put_is c.args.area c.args.a.now c.get.result.now
    (flat c.args.shelf.now) c.args.grid.now after c.in_ok-e.e c.own_block_of-b.result
    is c.in_ok-e.ensures c.own_block_of-b.ensures c.get.ensures c.requires.spread.grid_is
    c.requires.spread.ascends c.requires.absent) c.change_grid.ensures
