use Rattle.route_lattice.specs.Found.{Gains, AtSome, IsAnchorNode, IsOnLevel}
use Rattle.route_lattice.proofs.anchor.LatticeItem.push_between.Given as goal

abbrev pub invariant-loop-level : goal.invariant-loop-level
invariant-loop-level l =
    Gains (AtSome (λ k. IsOnLevel l.self.d l.self.lat l.self.item l.window k) 0 l.level)
    (IsAnchorNode l.self.d l.self.lat l.self.item) l.fn.found.items l.found.items
