use Rattle.std.proofs.Common.{◌≡◌, ◌++◌, drop, length}
use Rattle.route_check.specs.Board.{numbered}
use Rattle.route_check.proofs.board.push_items.Given as goal

-- the items so far, and the session's behind them
abbrev pub invariant-loop-x : goal.invariant-loop-x
invariant-loop-x l = l.items ++ numbered l.d (length l.items) (drop l.x-index l.xs)
    ≡ l.initial.items ++ numbered l.d (length l.initial.items) l.xs
