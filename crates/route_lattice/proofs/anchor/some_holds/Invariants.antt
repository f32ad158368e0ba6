use Rattle.std.proofs.Common.{take, All}
use Rattle.pcb_model.specs.declared.item.Piece.{Piece}
use Rattle.route_lattice.specs.Anchors.{Holds}
use Rattle.route_lattice.proofs.anchor.some_holds.Given as goal

abbrev pub invariant-loop-piece : goal.invariant-loop-piece
invariant-loop-piece l = All (λ (q : Piece). ¬ (Holds l.layer l.p q)) (take l.piece-index l.pieces)
