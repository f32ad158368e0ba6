use Rattle.std.proofs.Common.{◌-◌, ◌^◌}
use Rattle.move_maps.proofs.Starting.{IsPaintedTo}
use Rattle.move_maps.proofs.fill.bring_all.Given as goal

abbrev pub invariant-loop-item : goal.invariant-loop-item
invariant-loop-item g l = IsPaintedTo l.on.d l.on.lat l.first l.on.items l.from l.counts

abbrev pub decreases-loop-item : goal.decreases-loop-item
decreases-loop-item g l = 2 ^ 64 - l.from
