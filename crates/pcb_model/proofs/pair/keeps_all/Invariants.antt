use Rattle.std.proofs.Common.{take, All}
use Rattle.pcb_model.specs.Pairs.{PieceKeeps}
use Rattle.pcb_model.proofs.pair.keeps_all.Given as goal

abbrev pub invariant-loop-r : goal.invariant-loop-r
invariant-loop-r l = All (PieceKeeps l.c l.p) (take l.r-index l.rs)
