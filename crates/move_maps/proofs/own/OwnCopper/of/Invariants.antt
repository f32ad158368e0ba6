use Rattle.std.proofs.Common.{◌-◌, ◌^◌}
use Rattle.move_maps.specs.OwnCopper.{IsOwnBelow}
use Rattle.move_maps.proofs.own.OwnCopper.of.Given as goal

abbrev pub invariant-loop-item : goal.invariant-loop-item
invariant-loop-item g l = IsOwnBelow l.on.d l.on.lat l.on.items l.first l.net l.from l.windows.items

abbrev pub decreases-loop-item : goal.decreases-loop-item
decreases-loop-item g l = 2 ^ 64 - l.from
