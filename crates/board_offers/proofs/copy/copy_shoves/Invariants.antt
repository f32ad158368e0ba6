use Rattle.std.proofs.Common.{◌≡◌, take}
use Rattle.board_offers.proofs.copy.copy_shoves.Given as goal

abbrev pub invariant-loop-s : goal.invariant-loop-s
invariant-loop-s l = l.copies ≡ take l.s-index l.shoves
