use Rattle.pcb_tiles.specs.Spread.{ServesSpread}
use Rattle.tests_board.proofs.of_tiles.change.Given as goal

abbrev pub invariant-loop-at : goal.invariant-loop-at
invariant-loop-at l = ServesSpread l.tiles l.d
