use Rattle.std.proofs.Common.{take, All}
use Rattle.pcb_model.specs.Pairs.{PieceKeeps}
use Rattle.pcb_model.specs.Pieces.{wire_piece}
use Rattle.pcb_model.proofs.pieces.chain_keeps_all.Given as goal

abbrev pub invariant-loop-r : goal.invariant-loop-r
invariant-loop-r l = All (PieceKeeps l.c (wire_piece l.layer l.width l.points)) (take l.r-index l.rs)
