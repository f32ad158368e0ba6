use Rattle.std.proofs.Common.{◌≡◌, drop}
use Rattle.std.specs.List.{list_all}
use Rattle.route_lattice.specs.Near.{is_near_at}
use Rattle.route_lattice.proofs.near.loops_near.Given as goal

abbrev pub invariant-loop-points : goal.invariant-loop-points
invariant-loop-points l =
    list_all (list_all (is_near_at l.by)) (drop l.points-index l.loops) ≡ list_all (list_all (is_near_at l.by)) l.loops
