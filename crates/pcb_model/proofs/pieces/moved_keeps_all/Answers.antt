use Rattle.pcb_model.specs.Pairs.{PieceKeeps}
use Rattle.pcb_model.specs.Pieces.{moved_piece}
use Rattle.pcb_model.specs.Bounds.{IsFit}
use Rattle.pcb_model.proofs.Answered.{holds_here, failed_here, passed_here, all_passed}
use Rattle.pcb_model.proofs.pieces.moved_keeps_all.Goals as goal

pub moved_piece_keeps-requires-clause-r_fit : goal.moved_piece_keeps-requires-clause-r_fit
moved_piece_keeps-requires-clause-r_fit c =
    holds_here IsFit c.args.rs.now c.loop-r.r-index c.r-item.result c.requires.rs_fit c.loop-r-test.true c.r-item.is

pub returns-then-not-moved_piece_keeps : goal.returns-then-not-moved_piece_keeps
returns-then-not-moved_piece_keeps c =
    let P = PieceKeeps c.args.c (moved_piece c.args.by c.args.p.now) in
    let t = failed_here P c.args.rs.now c.loop-r.r-index c.r-item.result c.moved_piece_keeps.result c.loop-r-test.true
    c.r-item.is c.moved_piece_keeps.ensures c.if-not-moved_piece_keeps.true in
    (λ h. record { each = t.0 h }, λ h. t.1 h.each)

pub loop-r-preserved : goal.loop-r-preserved
loop-r-preserved c =
    let P = PieceKeeps c.args.c (moved_piece c.args.by c.args.p.now) in
    passed_here P c.args.rs.now c.loop-r.r-index c.r-item.result c.loop-r-test.true c.r-item.is c.loop-r.invariant
    (c.moved_piece_keeps.ensures.0 c.if-not-moved_piece_keeps.false)

pub returns : goal.returns
returns c =
    let P = PieceKeeps c.args.c (moved_piece c.args.by c.args.p.now) in
    let t = all_passed P c.args.rs.now c.loop-r.r-index c.loop-r-test.false c.loop-r.invariant in
    (λ h. record { each = t.0 h }, λ h. t.1 h.each)
