use Rattle.pcb_board.specs.inner.Turning.{AreTurned}
use Rattle.pcb_board.proofs.marks.renew_turned.Given as goal

abbrev pub invariant-loop-place : goal.invariant-loop-place
invariant-loop-place l = AreTurned l.tiles.items l.marks l.number l.place l.initial.changed.items l.changed.items
