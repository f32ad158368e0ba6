use Rattle.std.proofs.Common.{◌^◌, take, All}
use Rattle.geo_kernel.specs.Spine.{IsSpineWithin}
use Rattle.pcb_model.specs.declared.item.Piece.{Piece}
use Rattle.pcb_model.specs.Pieces.{moved_piece}
use Rattle.board_offers.proofs.near.are_pieces_near_at.Given as goal

abbrev pub invariant-loop-p : goal.invariant-loop-p
invariant-loop-p l = All (λ (p : Piece). IsSpineWithin (2 ^ 29) (moved_piece l.at p).spine) (take l.p-index l.ps)
