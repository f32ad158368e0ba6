use Rattle.std.proofs.Common.{◌≡◌, ◌==◌, drop}
use Rattle.std.specs.List.{list_all}
use Rattle.pcb_model.specs.declared.item.Piece.{Piece}
use Rattle.dsn_design.proofs.pins.are_on.Given as goal

abbrev pub invariant-loop-piece : goal.invariant-loop-piece
invariant-loop-piece l = list_all (λ (q : Piece). q.layer == l.layer) (drop l.piece-index l.pieces)
    ≡ list_all (λ (q : Piece). q.layer == l.layer) l.pieces
