use Rattle.std.proofs.Common.{sym, subst}
use Rattle.pcb_tiles.specs.Spread.{Spread, ServesSpread}
use Rattle.tests_board.proofs.of_tiles.shared.Goals as goal

pub returns-in-Ok : goal.returns-in-Ok
returns-in-Ok c =
    let F : Spread → Type 0 = λ t. ServesSpread t c.args.d.now in
    subst F (sym c.in-Ok.ensures) c.requires
