use Rattle.std.proofs.Common.{◌≡◌, map, take}
use Rattle.route_check.specs.inner.Kept.{stretch_of}
use Rattle.route_check.proofs.cuts.stretches.Given as goal

abbrev pub invariant-loop-r : goal.invariant-loop-r
invariant-loop-r l = l.stretches.items ≡ map stretch_of (take l.r-index l.runs)
