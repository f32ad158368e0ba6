use Rattle.std.proofs.Common.{take, All}
use Rattle.geo_kernel.specs.Spine.{IsInside}
use Rattle.pcb_model.proofs.legal.inside_each.Given as goal

abbrev pub invariant-loop-loops : goal.invariant-loop-loops
invariant-loop-loops l = All (IsInside l.p) (take l.loops-index l.bounds)
