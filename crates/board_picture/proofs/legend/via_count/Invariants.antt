use Rattle.std.proofs.Common.{◌≡◌, ◌≤◌, take}
use Rattle.board_picture.specs.Legend.{via_count}
use Rattle.board_picture.proofs.legend.via_count.Given as goal

abbrev pub invariant-loop-a : goal.invariant-loop-a
invariant-loop-a l = (l.count ≡ via_count (take l.a-index l.items)) × (l.count ≤ l.a-index)
