use Rattle.std.proofs.Common.{◌≡◌, ◌++◌, drop}
use Rattle.route_check.specs.inner.Left.{kept}
use Rattle.route_check.proofs.left.kept_items.Given as goal

-- the items so far, and those that are left behind them
abbrev pub invariant-loop-i : goal.invariant-loop-i
invariant-loop-i l = l.left ++ kept (drop l.i l.gone) (drop l.i l.xs) ≡ kept l.gone l.xs
