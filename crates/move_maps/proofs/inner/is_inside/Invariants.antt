use Rattle.std.proofs.Common.{take, All}
use Rattle.std.proofs.Common.{List}
use Rattle.geo_kernel.specs.declared.point.Point.{Point}
use Rattle.geo_kernel.specs.Spine.{IsInside}
use Rattle.move_maps.proofs.inner.is_inside.Given as goal

abbrev pub invariant-loop-loops : goal.invariant-loop-loops
invariant-loop-loops l = All (λ (loops : List (List Point)). IsInside l.at loops) (take l.loops-index l.bounds)
