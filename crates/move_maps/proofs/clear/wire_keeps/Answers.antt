use Rattle.std.proofs.Common.{◌∙◌, List, sym, subst, refl, true≢false}
use Rattle.pcb_model.specs.declared.item.Piece.{Piece}
use Rattle.pcb_model.specs.Pairs.{KeepsFrom}
use Rattle.pcb_model.specs.Pieces.{wire_piece}
use Rattle.move_maps.proofs.clear.wire_keeps.Goals as goal

pub returns : goal.returns
returns c =
    let F : List Piece → Type 0 = λ rs. KeepsFrom c.args.clearance rs
    (wire_piece c.args.layer c.args.width c.args.points.now) in (
      λ h k. subst F c.as_slice.ensures (c.chain_keeps_all.ensures.0 h),
      λ f. c.chain_keeps_all.ensures.1
          (subst F (sym c.as_slice.ensures) (f (sym c.meets_wires.ensures ∙ c.if-not-meets_wires.false))),
    )

pub returns-then-not-meets_wires : goal.returns-then-not-meets_wires
returns-then-not-meets_wires c =
    (λ t k. absurd (true≢false (sym (c.meets_wires.ensures ∙ k) ∙ c.if-not-meets_wires.true)), λ h. refl)
