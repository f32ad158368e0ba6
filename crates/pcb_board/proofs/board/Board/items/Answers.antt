use Rattle.std.proofs.Common.{subst}
use Rattle.pcb_tiles.specs.Spread.{ServesSpread}
use Rattle.pcb_board.specs.Boards.{BoardOf}
use Rattle.pcb_board.specs.Indexing.{board_of}
use Rattle.pcb_board.specs.Snaps.{AreTilesOf}
use Rattle.pcb_board.proofs.Standing.{serves_now}
use Rattle.pcb_board.proofs.board.Board.items.Goals as goal

pub returns-clause-tiles : goal.returns-clause-tiles
returns-clause-tiles c =
    let t = c.self.inside.tiles in
    subst (λ (b : BoardOf). AreTilesOf b.design t.area t.reach) c.self.view_is c.self.invariant.spread

pub returns-clause-serves : goal.returns-clause-serves
returns-clause-serves c =
    subst (λ (b : BoardOf). ServesSpread c.self.inside.tiles b.design) c.self.view_is (record {
      serves = serves_now (board_of c.self.inside) c.self.invariant.board;
      reaches = c.self.invariant.spread.greatest.within;
    })
