use Rattle.std.proofs.Common.{◌≡◌, map, take}
use Rattle.route_plan.specs.inner.Ways.{shove_of}
use Rattle.route_plan.proofs.moved.shoves_of.Given as goal

abbrev pub invariant-loop-item : goal.invariant-loop-item
invariant-loop-item l = l.shoves ≡ map shove_of (take l.item-index l.moved)
