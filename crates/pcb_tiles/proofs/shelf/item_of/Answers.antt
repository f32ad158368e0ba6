use Rattle.pcb_tiles.specs.Shelves.{flat}
use Rattle.pcb_tiles.proofs.Shelves.{none_held, not_first}
use Rattle.pcb_tiles.proofs.shelf.item_of.Goals as goal

pub returns-in-None : goal.returns-in-None
returns-in-None c = none_held (flat c.args.chunks.now) c.args.id c.in-None.ensures

pub returns-else-found-id : goal.returns-else-found-id
returns-else-found-id c = not_first (flat c.args.chunks.now) c.args.id _ c.in-Some.ensures c.if-found-id.false
