use Rattle.std.proofs.Common.{take, All}
use Rattle.pcb_model.specs.declared.item.Piece.{Piece}
use Rattle.pcb_model.specs.Pairs.{KeepsFrom}
use Rattle.pcb_model.specs.Pieces.{moved_piece}
use Rattle.pcb_model.proofs.pieces.moved_keep.Given as goal

abbrev pub invariant-loop-p : goal.invariant-loop-p
invariant-loop-p l = All (λ (p : Piece). KeepsFrom l.c l.rs (moved_piece l.by p)) (take l.p-index l.ps)
