use Rattle.std.proofs.Common.{◌≡◌, ◌≤◌, ◌+◌, ◌*◌, ◌-◌, find, nat_le}
use Rattle.std.specs.List.{range_with_len}
use Rattle.board_gen.proofs.order.side_of.Given as goal

abbrev pub invariant-loop-side : goal.invariant-loop-side
invariant-loop-side l = record {
  small : l.side ≤ l.count;
  still : find (λ side. nat_le l.count (side * side)) (range_with_len l.side (l.count + 1 - l.side))
      ≡ find (λ side. nat_le l.count (side * side)) (range_with_len 0 (l.count + 1));
}

abbrev pub decreases-loop-side : goal.decreases-loop-side
decreases-loop-side l = l.count - l.side
