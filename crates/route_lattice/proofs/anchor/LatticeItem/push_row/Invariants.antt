use Rattle.route_lattice.specs.Found.{Gains, AtSome, IsAnchorNode, IsAnchorAt}
use Rattle.route_lattice.proofs.anchor.LatticeItem.push_row.Given as goal

abbrev pub invariant-loop-column : goal.invariant-loop-column
invariant-loop-column l =
    Gains (AtSome (λ i. IsAnchorAt l.self.d l.self.lat l.self.item l.level l.row i) l.fn.window.left l.column)
    (IsAnchorNode l.self.d l.self.lat l.self.item) l.fn.found.items l.found.items
