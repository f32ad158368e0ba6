use Rattle.geo_kernel.specs.Spine.{Touches, loop_segments}
use Rattle.geo_kernel.proofs.Paths.{SomeLeft}
use Rattle.route_lattice.proofs.touch.touches_loops.Given as goal

abbrev pub invariant-loop-points : goal.invariant-loop-points
invariant-loop-points l = SomeLeft (Touches l.k (record { from = l.p; to = l.p })) loop_segments l.loops l.points-index
