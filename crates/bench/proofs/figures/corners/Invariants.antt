use Rattle.std.proofs.Common.{◌≡◌, ◌^◌, length, All}
use Rattle.geo_kernel.specs.Plane.{IsWithin}
use Rattle.bench.proofs.figures.corners.Given as goal

abbrev pub invariant-loop-i : goal.invariant-loop-i
invariant-loop-i l = (length l.points ≡ l.i) × All (IsWithin (2 ^ 29)) l.points
