use Rattle.std.proofs.Common.{◌≡◌, take}
use Rattle.route_plan.proofs.fixed_copper.fixed_copper.Given as goal

-- the items so far
abbrev pub invariant-loop-item : goal.invariant-loop-item
invariant-loop-item l = l.copper ≡ take l.item-index l.d.fixed
