use Rattle.std.proofs.Common.{◌≡◌, drop}
use Rattle.dsn_placement.specs.Copper.{all_or_none, seat_point}
use Rattle.dsn_placement.proofs.Each.{behind}
use Rattle.dsn_placement.proofs.copper.place_loops.Given as goal

abbrev pub invariant-loop-points : goal.invariant-loop-points
invariant-loop-points l = behind l.placed (all_or_none (all_or_none (seat_point l.seat)) (drop l.points-index l.loops))
    ≡ all_or_none (all_or_none (seat_point l.seat)) l.loops
