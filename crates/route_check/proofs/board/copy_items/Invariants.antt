use Rattle.std.proofs.Common.{◌≡◌, take}
use Rattle.route_check.proofs.board.copy_items.Given as goal

abbrev pub invariant-loop-a : goal.invariant-loop-a
invariant-loop-a l = l.copies ≡ take l.a-index l.items
