use Rattle.std.proofs.Common.{◌≡◌, take}
use Rattle.pcb_tiles.proofs.fill.shares_of.Given as goal

abbrev pub invariant-loop-a : goal.invariant-loop-a
invariant-loop-a l = l.shares ≡ take l.a-index l.held
