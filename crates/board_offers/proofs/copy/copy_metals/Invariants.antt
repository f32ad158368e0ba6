use Rattle.std.proofs.Common.{◌≡◌, take}
use Rattle.board_offers.proofs.copy.copy_metals.Given as goal

abbrev pub invariant-loop-m : goal.invariant-loop-m
invariant-loop-m l = l.copies ≡ take l.m-index l.metals
