use Rattle.std.proofs.Common.{◌≡◌, drop}
use Rattle.std.specs.Prelude.{is_some}
use Rattle.dsn_placement.specs.Copper.{all_or_none, seat_point}
use Rattle.dsn_placement.proofs.reach.are_points_placed.Given as goal

abbrev pub invariant-loop-point : goal.invariant-loop-point
invariant-loop-point l = is_some (all_or_none (seat_point l.seat) (drop l.point-index l.points))
    ≡ is_some (all_or_none (seat_point l.seat) l.points)
