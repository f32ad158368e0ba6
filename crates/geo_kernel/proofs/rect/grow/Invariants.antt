use Rattle.std.proofs.Common.{take}
use Rattle.geo_kernel.specs.Grown.{IsGrown}
use Rattle.geo_kernel.proofs.rect.grow.Given as goal

abbrev pub invariant-loop-p : goal.invariant-loop-p
invariant-loop-p l = IsGrown l.fn.start l.r (take l.p-index l.points)
