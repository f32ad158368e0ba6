use Rattle.pcb_model.specs.declared.item.Piece.{Piece}
use Rattle.pcb_model.specs.Bounds.{IsFit}
use Rattle.pcb_model.proofs.Answered.{holds_here, found_here, missed_here, all_missed}
use Rattle.route_lattice.specs.Anchors.{Holds}
use Rattle.route_lattice.proofs.anchor.some_holds.Goals as goal

pub holds-requires-clause-piece_fit : goal.holds-requires-clause-piece_fit
holds-requires-clause-piece_fit c =
    holds_here IsFit c.args.pieces.now c.loop-piece.piece-index c.piece-item.result c.requires.fit
    c.loop-piece-test.true c.piece-item.is

pub loop-piece-preserved : goal.loop-piece-preserved
loop-piece-preserved c =
    missed_here (λ (q : Piece). Holds c.args.layer c.args.p q) c.args.pieces.now c.loop-piece.piece-index
    c.piece-item.result
    c.holds.result c.loop-piece-test.true c.piece-item.is c.holds.ensures c.if-holds.false c.loop-piece.invariant

pub returns-then-holds : goal.returns-then-holds
returns-then-holds c =
    found_here (λ (q : Piece). Holds c.args.layer c.args.p q) c.args.pieces.now c.loop-piece.piece-index
    c.piece-item.result
    c.loop-piece-test.true c.piece-item.is (c.holds.ensures.0 c.if-holds.true)

pub returns : goal.returns
returns c =
    all_missed (λ (q : Piece). Holds c.args.layer c.args.p q) c.args.pieces.now c.loop-piece.piece-index
    c.loop-piece-test.false
    c.loop-piece.invariant
