use Rattle.std.proofs.Common.{sym, subst}
use Rattle.pcb_tiles.specs.Spread.{Spread, ServesSpread}
use Rattle.tests_board.proofs.Serving.{more}
use Rattle.tests_board.proofs.copper.lay.Goals as goal

pub returns-in-Ok : goal.returns-in-Ok
returns-in-Ok c =
    let F : Spread → Type 0 = λ t. ServesSpread t c.args.d.now in
    subst F (sym c.in-Ok.ensures)
    (more c.args.tiles.now c.args.d.now c.in_ok-item.item c.requires.serves c.in_ok-item.ensures.routed
    c.in_ok-item.ensures.of)
