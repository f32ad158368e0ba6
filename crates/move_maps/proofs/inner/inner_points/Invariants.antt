use Rattle.std.proofs.Common.{◌*◌, length}
use Rattle.move_maps.specs.Starts.{AreInner}
use Rattle.move_maps.proofs.inner.inner_points.Given as goal

-- the rows so far
abbrev pub invariant-loop-row : goal.invariant-loop-row
invariant-loop-row g l = AreInner l.on.d l.on.lat (l.row * length l.on.lat.xs) l.inner
