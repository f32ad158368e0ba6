use Rattle.std.proofs.Common.{take, false}
use Rattle.pcb_board.specs.inner.Turning.{ArePut}
use Rattle.pcb_board.proofs.marks.clear_all.Given as goal

abbrev pub invariant-loop-id : goal.invariant-loop-id
invariant-loop-id l = ArePut (take l.id-index l.ids) false l.initial.marks.items l.marks.items
