use Rattle.pcb_model.specs.Pairs.{PieceKeeps}
use Rattle.pcb_model.specs.Pieces.{wire_piece}
use Rattle.pcb_model.specs.Bounds.{IsFit}
use Rattle.pcb_model.proofs.Answered.{holds_here, failed_here, passed_here, all_passed}
use Rattle.pcb_model.proofs.pieces.chain_keeps_all.Goals as goal

pub chain_keeps-requires-clause-r_fit : goal.chain_keeps-requires-clause-r_fit
chain_keeps-requires-clause-r_fit c =
    holds_here IsFit c.args.rs.now c.loop-r.r-index c.r-item.result c.requires.rs_fit c.loop-r-test.true c.r-item.is

pub returns-then-not-chain_keeps : goal.returns-then-not-chain_keeps
returns-then-not-chain_keeps c =
    let P = PieceKeeps c.args.c (wire_piece c.args.layer c.args.width c.args.points.now) in
    let t = failed_here P c.args.rs.now c.loop-r.r-index c.r-item.result c.chain_keeps.result c.loop-r-test.true
    c.r-item.is c.chain_keeps.ensures c.if-not-chain_keeps.true in
    (λ h. record { each = t.0 h }, λ h. t.1 h.each)

pub loop-r-preserved : goal.loop-r-preserved
loop-r-preserved c =
    let P = PieceKeeps c.args.c (wire_piece c.args.layer c.args.width c.args.points.now) in
    passed_here P c.args.rs.now c.loop-r.r-index c.r-item.result c.loop-r-test.true c.r-item.is c.loop-r.invariant
    (c.chain_keeps.ensures.0 c.if-not-chain_keeps.false)

pub returns : goal.returns
returns c =
    let P = PieceKeeps c.args.c (wire_piece c.args.layer c.args.width c.args.points.now) in
    let t = all_passed P c.args.rs.now c.loop-r.r-index c.loop-r-test.false c.loop-r.invariant in
    (λ h. record { each = t.0 h }, λ h. t.1 h.each)
