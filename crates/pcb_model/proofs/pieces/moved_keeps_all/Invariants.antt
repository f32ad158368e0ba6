use Rattle.std.proofs.Common.{take, All}
use Rattle.pcb_model.specs.Pairs.{PieceKeeps}
use Rattle.pcb_model.specs.Pieces.{moved_piece}
use Rattle.pcb_model.proofs.pieces.moved_keeps_all.Given as goal

abbrev pub invariant-loop-r : goal.invariant-loop-r
invariant-loop-r l = All (PieceKeeps l.c (moved_piece l.by l.p)) (take l.r-index l.rs)
