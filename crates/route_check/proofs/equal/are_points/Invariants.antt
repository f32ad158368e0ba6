use Rattle.std.proofs.Common.{◌≡◌, drop}
use Rattle.route_check.specs.Board.{are_points}
use Rattle.route_check.proofs.equal.are_points.Given as goal

abbrev pub invariant-loop-i : goal.invariant-loop-i
invariant-loop-i l = are_points (drop l.i l.c) (drop l.i l.e) ≡ are_points l.c l.e
