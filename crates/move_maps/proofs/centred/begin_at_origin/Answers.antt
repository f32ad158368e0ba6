use Rattle.std.proofs.Common.{All, sym, subst}
use Rattle.std.proofs.lemmas.List.{take_all}
use Rattle.std.proofs.lemmas.List.Elements.{All-nil, All-more}
use Rattle.geo_kernel.specs.Spine.{IsFirst}
use Rattle.pcb_model.specs.declared.item.Piece.{Piece}
use Rattle.pcb_model.specs.Bounds.{IsFit}
use Rattle.pcb_model.specs.Sound.{origin}
use Rattle.move_maps.proofs.centred.begin_at_origin.Goals as goal

-- a piece that begins at the origin
abbrev Begins : Piece → Type 0
Begins q = IsFirst q.spine origin

pub begins_at_origin-requires : goal.begins_at_origin-requires
begins_at_origin-requires c =
    subst IsFit (sym c.piece-item.is) (c.requires c.loop-piece.piece-index c.piece-item.result c.loop-piece-test.true)

pub loop-piece-init : goal.loop-piece-init
loop-piece-init c = All-nil Begins

pub loop-piece-preserved : goal.loop-piece-preserved
loop-piece-preserved c = All-more Begins c.args.pieces.now c.loop-piece.piece-index c.piece-item.result
    c.loop-piece-test.true
    c.loop-piece.invariant (subst Begins c.piece-item.is (c.begins_at_origin.ensures c.if-not-begins_at_origin.false))

pub returns : goal.returns
returns c = λ e. subst (All Begins) (take_all c.loop-piece.piece-index c.args.pieces.now
    c.loop-piece-test.false) c.loop-piece.invariant
