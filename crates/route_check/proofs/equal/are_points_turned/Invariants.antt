use Rattle.std.proofs.Common.{◌≡◌, drop, reverse}
use Rattle.route_check.specs.Board.{are_points}
use Rattle.route_check.proofs.equal.are_points_turned.Given as goal

abbrev pub invariant-loop-i : goal.invariant-loop-i
invariant-loop-i l = are_points (drop l.i (reverse l.c)) (drop l.i l.e) ≡ are_points (reverse l.c) l.e
