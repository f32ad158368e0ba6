use Rattle.route_lattice.specs.Found.{Gains, AtSome, IsAnchorNode, IsInRow}
use Rattle.route_lattice.proofs.anchor.LatticeItem.push_level.Given as goal

abbrev pub invariant-loop-row : goal.invariant-loop-row
invariant-loop-row l =
    Gains (AtSome (λ j. IsInRow l.self.d l.self.lat l.self.item l.fn.window l.level j) l.fn.window.bottom l.row)
    (IsAnchorNode l.self.d l.self.lat l.self.item)
    l.fn.found.items l.found.items
