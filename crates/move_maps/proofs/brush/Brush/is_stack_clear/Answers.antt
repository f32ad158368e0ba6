use Rattle.std.proofs.Common.{List, sym, ◌∙◌, ap, refl}
use Rattle.pcb_model.specs.declared.item.Piece.{Piece}
use Rattle.pcb_model.specs.Bounds.{IsFit}
use Rattle.pcb_model.specs.Pieces.{padstack_pieces, moved_piece}
use Rattle.pcb_model.proofs.Probes.{All-unmap}
use Rattle.route_lattice.specs.Near.{are_near_at}
use Rattle.route_lattice.proofs.Fitting.{via_probe_fit}
use Rattle.move_maps.proofs.Painting.{not_both}
use Rattle.move_maps.proofs.brush.Brush.is_stack_clear.Goals as goal

pub returns-then-not-pieces_near : goal.returns-then-not-pieces_near
returns-then-not-pieces_near c =
    let far = ap (λ (ps : List Piece). are_near_at c.args.at ps) (sym c.pieces.ensures)
    ∙ sym c.pieces_near.ensures in
    (λ t n. absurd (not_both c.pieces_near.result (sym far ∙ n) c.if-not-pieces_near.true), λ k. refl)

pub via_clears-requires : goal.via_clears-requires
via_clears-requires c =
    let d = c.args.self.now.group.d in
    All-unmap IsFit (moved_piece c.args.at) (padstack_pieces d c.args.padstack)
    (via_probe_fit d c.args.padstack c.args.at c.told.ensures.can_move.sound.fits
    (ap (λ (ps : List Piece). are_near_at c.args.at ps) (sym c.pieces.ensures)
    ∙ (sym c.pieces_near.ensures ∙ c.if-not-pieces_near.false)))

pub returns : goal.returns
returns c =
    let near = ap (λ (ps : List Piece). are_near_at c.args.at ps) (sym c.pieces.ensures)
    ∙ (sym c.pieces_near.ensures ∙ c.if-not-pieces_near.false) in
    (λ t n. c.via_clears.ensures.0 t, λ k. c.via_clears.ensures.1 (k near))
