use Rattle.std.proofs.Common.{◌≡◌, ◌≤◌, ◌<◌, ◌-◌, ◌^◌, length, vec_len}
use Rattle.board_gen.specs.Board.{shuffled}
use Rattle.board_gen.proofs.order.shuffled.Given as goal

abbrev pub invariant-loop-at : goal.invariant-loop-at
invariant-loop-at l = record {
  small : l.state < 2 ^ 31;
  within : l.at ≤ vec_len l.entries;
  still : shuffled (l.at - 1) l.state l.entries.items ≡ shuffled (length l.fn.entries.items - 1) l.fn.start
      l.fn.entries.items;
}

abbrev pub decreases-loop-at : goal.decreases-loop-at
decreases-loop-at l = l.at
