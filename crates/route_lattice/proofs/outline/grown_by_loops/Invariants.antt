use Rattle.std.proofs.Common.{◌≡◌, take, flat_map}
use Rattle.route_lattice.specs.Gather.{widened}
use Rattle.route_lattice.proofs.outline.grown_by_loops.Given as goal

abbrev pub invariant-loop-points : goal.invariant-loop-points
invariant-loop-points l = l.r ≡ widened l.fn.start (flat_map (λ points. points) (take l.points-index l.loops))
