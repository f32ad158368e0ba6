use Rattle.std.proofs.Common.{◌≡◌, take}
use Rattle.picture_call.proofs.copper.fixed_copper.Given as goal

abbrev pub invariant-loop-item : goal.invariant-loop-item
invariant-loop-item l = l.copper ≡ take l.item-index l.d.fixed
