use Rattle.std.proofs.Common.{take, All}
use Rattle.pcb_model.specs.Pairs.{KeepsFrom}
use Rattle.pcb_model.proofs.pair.pieces_keep.Given as goal

abbrev pub invariant-loop-p : goal.invariant-loop-p
invariant-loop-p l = All (KeepsFrom l.c l.rs) (take l.p-index l.ps)
