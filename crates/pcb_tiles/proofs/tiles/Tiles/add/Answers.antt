use Rattle.std.proofs.Common.{◌∙◌, ap}
use Rattle.pcb_tiles.specs.Spread.{holding}
use Rattle.pcb_tiles.proofs.Changes.{with_last}
use Rattle.pcb_tiles.proofs.tiles.Tiles.add.Goals as goal

pub returns-in-Ok-clause-ok : goal.returns-in-Ok-clause-ok
returns-in-Ok-clause-ok c =
    c.in-Ok.ensures.more ∙ ap (holding c.args.self.now) (with_last c.args.item c.args.self.now.items c.requires.above)
