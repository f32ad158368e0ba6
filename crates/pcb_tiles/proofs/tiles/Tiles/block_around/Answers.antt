use Rattle.std.proofs.Common.{All, subst}
use Rattle.pcb_model.specs.Bounds.{IsItemFit}
use Rattle.pcb_tiles.specs.Spread.{Spread}
use Rattle.pcb_tiles.proofs.tiles.Tiles.block_around.Goals as goal

pub returns-clause-fit : goal.returns-clause-fit
returns-clause-fit c =
    let F : Spread → Type 0 = λ t. All IsItemFit t.items in
    subst F c.self.view_is c.self.invariant.fit
