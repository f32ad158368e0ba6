use Rattle.std.proofs.Common.{◌≡◌, drop}
use Rattle.std.specs.Prelude.{is_some}
use Rattle.dsn_placement.specs.Copper.{all_or_none, seat_point}
use Rattle.dsn_placement.proofs.reach.are_loops_placed.Given as goal

abbrev pub invariant-loop-points : goal.invariant-loop-points
invariant-loop-points l = is_some (all_or_none (all_or_none (seat_point l.seat)) (drop l.points-index l.loops))
    ≡ is_some (all_or_none (all_or_none (seat_point l.seat)) l.loops)
