use Rattle.std.proofs.Common.{◌≡◌, drop}
use Rattle.std.specs.List.{list_any}
use Rattle.dsn_wiring.specs.Vias.{is_past}
use Rattle.dsn_wiring.proofs.via.loops_past.Given as goal

abbrev pub invariant-loop-points : goal.invariant-loop-points
invariant-loop-points l =
    list_any (list_any (is_past l.at)) (drop l.points-index l.loops) ≡ list_any (list_any (is_past l.at)) l.loops
