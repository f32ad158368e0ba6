use Rattle.std.proofs.Common.{◌≡◌, drop}
use Rattle.std.specs.List.{list_any}
use Rattle.pcb_model.specs.declared.item.Piece.{Piece}
use Rattle.dsn_wiring.specs.Vias.{spine_past}
use Rattle.ses_reader.proofs.vertices.is_stack_past.Given as goal

abbrev pub invariant-loop-piece : goal.invariant-loop-piece
invariant-loop-piece l = list_any (λ (p : Piece). spine_past l.at p.spine) (drop l.piece-index l.pieces)
    ≡ list_any (λ (p : Piece). spine_past l.at p.spine) l.padstack.pieces
