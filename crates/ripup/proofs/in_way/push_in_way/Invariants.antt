use Rattle.std.proofs.Common.{◌-◌, ◌^◌, ◌≤◌, length}
use Rattle.ripup.specs.inner.Steps.{AreInWayBelow}
use Rattle.ripup.proofs.in_way.push_in_way.Given as goal

abbrev pub invariant-loop-id : goal.invariant-loop-id
invariant-loop-id g l = record {
  below : AreInWayBelow l.on.d l.on.items l.item l.from l.fn.found.items l.found.items;
  behind : length l.on.d.fixed ≤ l.from;
}

abbrev pub decreases-loop-id : goal.decreases-loop-id
decreases-loop-id g l = 2 ^ 64 - l.from
