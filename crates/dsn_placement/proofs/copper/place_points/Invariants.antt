use Rattle.std.proofs.Common.{◌≡◌, drop}
use Rattle.dsn_placement.specs.Copper.{all_or_none, seat_point}
use Rattle.dsn_placement.proofs.Each.{behind}
use Rattle.dsn_placement.proofs.copper.place_points.Given as goal

abbrev pub invariant-loop-point : goal.invariant-loop-point
invariant-loop-point l = behind l.placed (all_or_none (seat_point l.seat) (drop l.point-index l.points))
    ≡ all_or_none (seat_point l.seat) l.points
