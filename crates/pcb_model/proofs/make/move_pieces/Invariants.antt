use Rattle.std.proofs.Common.{◌≡◌, take, map}
use Rattle.pcb_model.specs.Pieces.{moved_piece}
use Rattle.pcb_model.proofs.make.move_pieces.Given as goal

abbrev pub invariant-loop-p : goal.invariant-loop-p
invariant-loop-p l = l.moved ≡ map (moved_piece l.by) (take l.p-index l.ps)
