use Rattle.std.proofs.Common.{◌≡◌, take}
use Rattle.pcb_model.proofs.make.copy_pieces.Given as goal

abbrev pub invariant-loop-p : goal.invariant-loop-p
invariant-loop-p l = l.copies ≡ take l.p-index l.ps
