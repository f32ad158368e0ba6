use Rattle.std.proofs.Common.{◌≡◌, take}
use Rattle.plane_stubs.proofs.planned.copies.Given as goal

abbrev pub invariant-loop-item : goal.invariant-loop-item
invariant-loop-item l = l.list ≡ take l.item-index l.items
