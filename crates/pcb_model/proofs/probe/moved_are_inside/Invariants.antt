use Rattle.std.proofs.Common.{take, All}
use Rattle.pcb_model.specs.declared.item.Piece.{Piece}
use Rattle.pcb_model.specs.Board.{BeginsInEach}
use Rattle.pcb_model.specs.Pieces.{moved_piece}
use Rattle.pcb_model.proofs.probe.moved_are_inside.Given as goal

abbrev pub invariant-loop-p : goal.invariant-loop-p
invariant-loop-p l = All (λ (p : Piece). BeginsInEach l.bounds (moved_piece l.by p)) (take l.p-index l.ps)
