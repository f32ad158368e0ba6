use Rattle.pcb_model.specs.Pairs.{PieceTouches}
use Rattle.pcb_model.specs.Pieces.{moved_piece}
use Rattle.pcb_model.specs.Bounds.{IsFit}
use Rattle.pcb_model.proofs.Answered.{holds_here, found_here, missed_here, all_missed}
use Rattle.pcb_model.proofs.pieces.moved_touches_some.Goals as goal

pub moved_piece_touches-requires-clause-r_fit : goal.moved_piece_touches-requires-clause-r_fit
moved_piece_touches-requires-clause-r_fit c =
    holds_here IsFit c.args.rs.now c.loop-r.r-index c.r-item.result c.requires.rs_fit c.loop-r-test.true c.r-item.is

pub returns-then-moved_piece_touches : goal.returns-then-moved_piece_touches
returns-then-moved_piece_touches c =
    let P = PieceTouches (moved_piece c.args.by c.args.p.now) in
    let t = found_here P c.args.rs.now c.loop-r.r-index c.r-item.result c.loop-r-test.true c.r-item.is
    (c.moved_piece_touches.ensures.0 c.if-moved_piece_touches.true) in
    (λ h. record { some = t.0 h }, λ h. t.1 h.some)

pub loop-r-preserved : goal.loop-r-preserved
loop-r-preserved c =
    let P = PieceTouches (moved_piece c.args.by c.args.p.now) in
    missed_here P c.args.rs.now c.loop-r.r-index c.r-item.result c.moved_piece_touches.result c.loop-r-test.true
    c.r-item.is c.moved_piece_touches.ensures c.if-moved_piece_touches.false c.loop-r.invariant

pub returns : goal.returns
returns c =
    let P = PieceTouches (moved_piece c.args.by c.args.p.now) in
    let t = all_missed P c.args.rs.now c.loop-r.r-index c.loop-r-test.false c.loop-r.invariant in
    (λ h. record { some = t.0 h }, λ h. t.1 h.some)
