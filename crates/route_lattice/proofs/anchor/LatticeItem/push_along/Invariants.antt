use Rattle.std.proofs.Common.{◌-◌}
use Rattle.route_lattice.specs.Found.{Gains, AtSome, IsAnchorNode, IsAnchorIn, point_at}
use Rattle.route_lattice.proofs.anchor.LatticeItem.push_along.Given as goal

abbrev pub invariant-loop-k : goal.invariant-loop-k
invariant-loop-k l =
    Gains (AtSome (λ k. IsAnchorIn l.self.d l.self.lat l.self.item (point_at l.chain (k - 1)) (point_at l.chain k)) 0
    l.k)
    (IsAnchorNode l.self.d l.self.lat l.self.item) l.fn.found.items l.found.items
