use Rattle.pcb_model.specs.Pairs.{TouchesSome}
use Rattle.pcb_model.specs.Bounds.{IsFit}
use Rattle.pcb_model.proofs.Answered.{holds_here, found_here, missed_here, all_missed}
use Rattle.pcb_model.proofs.pair.pieces_touch.Goals as goal

pub touches_some-requires-clause-p_fit : goal.touches_some-requires-clause-p_fit
touches_some-requires-clause-p_fit c =
    holds_here IsFit c.args.ps.now c.loop-p.p-index c.p-item.result c.requires.ps_fit c.loop-p-test.true c.p-item.is

pub returns-then-touches_some : goal.returns-then-touches_some
returns-then-touches_some c =
    let P = TouchesSome c.args.rs.now in
    let t = found_here P c.args.ps.now c.loop-p.p-index c.p-item.result c.loop-p-test.true c.p-item.is
    (c.touches_some.ensures.0 c.if-touches_some.true) in
    (λ h. record { some = t.0 h }, λ h. t.1 h.some)

pub loop-p-preserved : goal.loop-p-preserved
loop-p-preserved c =
    let P = TouchesSome c.args.rs.now in
    missed_here P c.args.ps.now c.loop-p.p-index c.p-item.result c.touches_some.result c.loop-p-test.true c.p-item.is
    c.touches_some.ensures c.if-touches_some.false c.loop-p.invariant

pub returns : goal.returns
returns c =
    let P = TouchesSome c.args.rs.now in
    let t = all_missed P c.args.ps.now c.loop-p.p-index c.loop-p-test.false c.loop-p.invariant in
    (λ h. record { some = t.0 h }, λ h. t.1 h.some)
