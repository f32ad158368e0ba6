use Rattle.std.proofs.Common.{◌≡◌, drop}
use Rattle.std.specs.List.{list_all}
use Rattle.route_lattice.specs.Near.{is_near_at}
use Rattle.route_lattice.proofs.near.are_near.Given as goal

abbrev pub invariant-loop-p : goal.invariant-loop-p
invariant-loop-p l =
    list_all (is_near_at l.by) (drop l.p-index l.points) ≡ list_all (is_near_at l.by) l.points
