use Rattle.pcb_model.specs.Pairs.{KeepsFrom}
use Rattle.pcb_model.specs.Bounds.{IsFit}
use Rattle.pcb_model.proofs.Answered.{holds_here, failed_here, passed_here, all_passed}
use Rattle.pcb_model.proofs.pair.pieces_keep.Goals as goal

pub keeps_all-requires-clause-p_fit : goal.keeps_all-requires-clause-p_fit
keeps_all-requires-clause-p_fit c =
    holds_here IsFit c.args.ps.now c.loop-p.p-index c.p-item.result c.requires.ps_fit c.loop-p-test.true c.p-item.is

pub returns-then-not-keeps_all : goal.returns-then-not-keeps_all
returns-then-not-keeps_all c =
    let P = KeepsFrom c.args.c c.args.rs.now in
    let t = failed_here P c.args.ps.now c.loop-p.p-index c.p-item.result c.keeps_all.result c.loop-p-test.true
    c.p-item.is c.keeps_all.ensures c.if-not-keeps_all.true in
    (λ h. record { each = t.0 h }, λ h. t.1 h.each)

pub loop-p-preserved : goal.loop-p-preserved
loop-p-preserved c =
    let P = KeepsFrom c.args.c c.args.rs.now in
    passed_here P c.args.ps.now c.loop-p.p-index c.p-item.result c.loop-p-test.true c.p-item.is c.loop-p.invariant
    (c.keeps_all.ensures.0 c.if-not-keeps_all.false)

pub returns : goal.returns
returns c =
    let P = KeepsFrom c.args.c c.args.rs.now in
    let t = all_passed P c.args.ps.now c.loop-p.p-index c.loop-p-test.false c.loop-p.invariant in
    (λ h. record { each = t.0 h }, λ h. t.1 h.each)
