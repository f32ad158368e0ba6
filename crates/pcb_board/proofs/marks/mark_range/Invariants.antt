use Rattle.pcb_board.specs.inner.Turning.{IsRangePut}
use Rattle.pcb_board.proofs.marks.mark_range.Given as goal

abbrev pub invariant-loop-place : goal.invariant-loop-place
invariant-loop-place l = IsRangePut l.from l.place l.initial.marks.items l.marks.items
