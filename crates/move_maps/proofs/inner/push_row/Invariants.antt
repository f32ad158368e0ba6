use Rattle.std.proofs.Common.{◌+◌, ◌*◌, length}
use Rattle.move_maps.specs.Starts.{AreInner}
use Rattle.move_maps.proofs.inner.push_row.Given as goal

-- the crossings so far
abbrev pub invariant-loop-x : goal.invariant-loop-x
invariant-loop-x g l = AreInner l.on.d l.on.lat (l.row * length l.on.lat.xs + l.x-index) l.inner
