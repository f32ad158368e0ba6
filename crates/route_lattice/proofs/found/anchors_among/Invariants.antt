use Rattle.std.proofs.Common.{[], get_or}
use Rattle.route_lattice.specs.Found.{Gains, AtSome, IsAnchorAmong, IsAnchorWithId}
use Rattle.route_lattice.proofs.found.anchors_among.Given as goal

abbrev pub invariant-loop-id : goal.invariant-loop-id
invariant-loop-id g l =
    Gains (AtSome (λ k. IsAnchorWithId l.d l.lat (g.C.Copper.items l.c) (get_or l.ids k 0)) 0 l.id-index)
    (IsAnchorAmong l.d l.lat (g.C.Copper.items l.c) l.ids) [] l.found.items
