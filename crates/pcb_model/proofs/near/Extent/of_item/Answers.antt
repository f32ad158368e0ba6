use Rattle.std.proofs.Common.{◌^◌, List, sym, subst}
use Rattle.pcb_model.specs.declared.item.Piece.{Piece}
use Rattle.pcb_model.specs.declared.near.Extent.{Extent}
use Rattle.pcb_model.specs.Near.{IsBoxWithin, extent_of}
use Rattle.pcb_model.proofs.Least.{extent_within}
use Rattle.pcb_model.proofs.near.Extent.of_item.Goals as goal

pub returns-clause-within : goal.returns-clause-within
returns-clause-within c =
    let F : Extent → Type 0 = λ e. IsBoxWithin (2 ^ 29) e.bounds in
    let G : List Piece → Type 0 = λ ps. IsBoxWithin (2 ^ 29) (extent_of ps).bounds in
    subst F (sym c.of_pieces.ensures.least)
    (subst G (sym c.as_slice.ensures) (extent_within c.args.a.now.pieces c.requires.pieces_fit))
