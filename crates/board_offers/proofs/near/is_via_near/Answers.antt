use Rattle.std.proofs.Common.{List, All, IsTrue, ◌↔◌, ◌^◌, map, sym, subst}
use Rattle.geo_kernel.specs.Spine.{IsSpineWithin}
use Rattle.pcb_model.specs.declared.item.Piece.{Piece}
use Rattle.pcb_model.specs.Bounds.{IsFit}
use Rattle.pcb_model.specs.Pieces.{moved_piece}
use Rattle.board_offers.proofs.Fitting.{stack_fit}
use Rattle.board_offers.proofs.near.is_via_near.Goals as goal

pub are_pieces_near_at-requires-clause-fit : goal.are_pieces_near_at-requires-clause-fit
are_pieces_near_at-requires-clause-fit c =
    subst (All IsFit) (sym c.padstack_pieces.ensures) (stack_fit c.args.d.now c.args.padstack c.requires.design)

pub returns : goal.returns
returns c =
    subst (λ (ps : List Piece). IsTrue c.are_pieces_near_at.result ↔ All
    (λ (p : Piece). IsSpineWithin (2 ^ 29) p.spine) (map (moved_piece c.args.at) ps))
    c.padstack_pieces.ensures c.are_pieces_near_at.ensures
