use Rattle.std.proofs.Common.{sym, subst}
use Rattle.std.specs.Prelude.{All}
use Rattle.pcb_model.specs.Bounds.{IsItemFit}
use Rattle.pcb_model.specs.Copper.{Ascends}
use Rattle.pcb_board.proofs.Loading.{fixed_fit}
use Rattle.pcb_board.proofs.Order.{given_ascends}
use Rattle.pcb_board.proofs.Starting.{fixed_loaded}
use Rattle.pcb_board.proofs.load.fixed_tiles.Goals as goal

pub of-requires-clause-ascends : goal.of-requires-clause-ascends
of-requires-clause-ascends c =
    let d = c.args.d.now in
    subst Ascends (sym c.as_slice.ensures) (given_ascends d d.fixed (fixed_loaded d c.requires).given)

pub of-requires-clause-fit : goal.of-requires-clause-fit
of-requires-clause-fit c = subst (All IsItemFit) (sym c.as_slice.ensures) (fixed_fit c.args.d.now c.requires)
