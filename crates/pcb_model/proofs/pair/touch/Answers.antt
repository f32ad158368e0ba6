use Rattle.std.proofs.Common.{List, sym, subst}
use Rattle.pcb_model.specs.declared.item.Piece.{Piece}
use Rattle.pcb_model.specs.Pairs.{PiecesTouch}
use Rattle.pcb_model.proofs.pair.touch.Goals as goal

pub returns : goal.returns
returns c =
    let G : List Piece → Type 0 = λ ps. PiecesTouch ps c.as_slice-2.result.now in
    let H : List Piece → Type 0 = λ rs. PiecesTouch c.args.a.now.pieces rs in
    let s = c.as_slice.ensures in
    let u = c.as_slice-2.ensures in (
      λ t. subst H u (subst G s (c.pieces_touch.ensures.0 t)),
      λ h. c.pieces_touch.ensures.1 (subst G (sym s) (subst H (sym u) h)),
    )
