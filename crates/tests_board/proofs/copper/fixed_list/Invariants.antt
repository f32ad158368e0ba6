use Rattle.std.proofs.Common.{◌≡◌, take}
use Rattle.tests_board.proofs.copper.fixed_list.Given as goal

abbrev pub invariant-loop-item : goal.invariant-loop-item
invariant-loop-item l = l.copper ≡ take l.item-index l.d.fixed
