use Rattle.std.proofs.Common.{◌-◌, ◌^◌}
use Rattle.copper_change.proofs.Parting.{AreLoneTo}
use Rattle.copper_change.proofs.between.lone_items.Given as goal

abbrev pub invariant-loop-item : goal.invariant-loop-item
invariant-loop-item g l = AreLoneTo (g.A.Copper.items l.copper) (g.B.Copper.items l.other) l.from l.lone

abbrev pub decreases-loop-item : goal.decreases-loop-item
decreases-loop-item g l = 2 ^ 64 - l.from
