use Rattle.std.proofs.Common.{◌≡◌, take}
use Rattle.route_lattice.specs.Gather.{widened}
use Rattle.route_lattice.proofs.outline.grown.Given as goal

abbrev pub invariant-loop-p : goal.invariant-loop-p
invariant-loop-p l = l.r ≡ widened l.fn.start (take l.p-index l.points)
