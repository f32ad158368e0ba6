use Rattle.std.proofs.Common.{◌≡◌, ◌++◌, take}
use Rattle.std.specs.Prelude.{map}
use Rattle.plane_joins.specs.Stubs.{loose}
use Rattle.plane_stubs.proofs.planned.first_items.Given as goal

abbrev pub invariant-loop-rib : goal.invariant-loop-rib
invariant-loop-rib l = l.list ≡ l.d.fixed ++ map loose (take l.rib-index l.ribs)
