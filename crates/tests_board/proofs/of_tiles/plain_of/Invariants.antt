use Rattle.pcb_model.specs.Sound.{Serves}
use Rattle.tests_board.proofs.of_tiles.plain_of.Given as goal

abbrev pub invariant-loop-at : goal.invariant-loop-at
invariant-loop-at l = Serves l.copper l.d
