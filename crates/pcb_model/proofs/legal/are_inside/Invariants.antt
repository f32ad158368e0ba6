use Rattle.std.proofs.Common.{take, All}
use Rattle.pcb_model.specs.Board.{BeginsInEach}
use Rattle.pcb_model.proofs.legal.are_inside.Given as goal

abbrev pub invariant-loop-p : goal.invariant-loop-p
invariant-loop-p l = All (BeginsInEach l.bounds) (take l.p-index l.ps)
