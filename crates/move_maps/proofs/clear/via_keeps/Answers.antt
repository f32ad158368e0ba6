use Rattle.std.proofs.Common.{◌∙◌, List, map, sym, subst, refl, true≢false}
use Rattle.pcb_model.specs.declared.item.Piece.{Piece}
use Rattle.pcb_model.specs.Pairs.{PiecesKeep}
use Rattle.pcb_model.specs.Pieces.{moved_piece, padstack_pieces}
use Rattle.move_maps.proofs.clear.via_keeps.Goals as goal

pub returns : goal.returns
returns c =
    let at = c.args.at in
    let F : List Piece → List Piece → Type 0 = λ ps rs. PiecesKeep c.args.clearance (map (moved_piece at) ps) rs in
    let qs = padstack_pieces c.args.d.now c.args.padstack in (
      λ h k. subst (λ (ps : List Piece). F ps c.args.item.now.pieces) c.padstack_pieces.ensures
          (subst (F c.padstack_pieces.result.now) c.as_slice.ensures (c.moved_keep.ensures.0 h)),
      λ f. c.moved_keep.ensures.1
          (subst (F c.padstack_pieces.result.now) (sym c.as_slice.ensures)
          (subst (λ (ps : List Piece). F ps c.args.item.now.pieces) (sym c.padstack_pieces.ensures)
          (f (sym c.meets_vias.ensures ∙ c.if-not-meets_vias.false)))),
    )

pub returns-then-not-meets_vias : goal.returns-then-not-meets_vias
returns-then-not-meets_vias c =
    (λ t k. absurd (true≢false (sym (c.meets_vias.ensures ∙ k) ∙ c.if-not-meets_vias.true)), λ h. refl)
