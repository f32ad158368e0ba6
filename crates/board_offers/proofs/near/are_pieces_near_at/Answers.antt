use Rattle.std.proofs.Common.{◌^◌}
use Rattle.geo_kernel.specs.Spine.{IsSpineWithin}
use Rattle.pcb_model.specs.declared.item.Piece.{Piece}
use Rattle.pcb_model.specs.Bounds.{IsFit}
use Rattle.pcb_model.specs.Pieces.{moved_piece}
use Rattle.pcb_model.proofs.Answered.{holds_here, passed_here, failed_mapped, mapped_passed}
use Rattle.board_offers.proofs.near.are_pieces_near_at.Goals as goal

pub is_spine_near_at-requires-clause-within : goal.is_spine_near_at-requires-clause-within
is_spine_near_at-requires-clause-within c =
    let fits = holds_here IsFit c.args.ps.now c.loop-p.p-index c.p-item.result c.requires.fit c.loop-p-test.true
    c.p-item.is in
    fits.within

pub loop-p-preserved : goal.loop-p-preserved
loop-p-preserved c =
    passed_here (λ (p : Piece). IsSpineWithin (2 ^ 29) (moved_piece c.args.at p).spine) c.args.ps.now c.loop-p.p-index
    c.p-item.result c.loop-p-test.true c.p-item.is c.loop-p.invariant
    (c.is_spine_near_at.ensures.0 c.if-not-is_spine_near_at.false)

pub returns-then-not-is_spine_near_at : goal.returns-then-not-is_spine_near_at
returns-then-not-is_spine_near_at c =
    failed_mapped (λ (p : Piece). IsSpineWithin (2 ^ 29) p.spine) (moved_piece c.args.at) c.args.ps.now c.loop-p.p-index
    c.p-item.result c.is_spine_near_at.result c.loop-p-test.true c.p-item.is c.is_spine_near_at.ensures
    c.if-not-is_spine_near_at.true

pub returns : goal.returns
returns c =
    mapped_passed (λ (p : Piece). IsSpineWithin (2 ^ 29) p.spine) (moved_piece c.args.at) c.args.ps.now c.loop-p.p-index
    c.loop-p-test.false c.loop-p.invariant
