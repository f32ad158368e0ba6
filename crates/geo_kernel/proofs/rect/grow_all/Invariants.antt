use Rattle.std.proofs.Common.{take, flat_map}
use Rattle.geo_kernel.specs.Grown.{IsGrown}
use Rattle.geo_kernel.proofs.rect.grow_all.Given as goal

abbrev pub invariant-loop-points : goal.invariant-loop-points
invariant-loop-points l = IsGrown l.fn.start l.r (flat_map (λ points. points) (take l.points-index l.loops))
