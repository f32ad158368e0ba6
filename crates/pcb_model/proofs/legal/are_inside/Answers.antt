use Rattle.pcb_model.specs.Board.{BeginsInEach}
use Rattle.pcb_model.specs.Bounds.{IsFit}
use Rattle.pcb_model.proofs.Answered.{holds_here, failed_here, passed_here, all_passed}
use Rattle.pcb_model.proofs.Inside.{begins_inside}
use Rattle.pcb_model.proofs.legal.are_inside.Goals as goal

pub first_point-requires-clause-well_formed : goal.first_point-requires-clause-well_formed
first_point-requires-clause-well_formed c =
    let fit = holds_here IsFit c.args.ps.now c.loop-p.p-index c.p-item.result c.requires.ps_fit c.loop-p-test.true
    c.p-item.is in fit.well_formed

pub first_point-requires-clause-within : goal.first_point-requires-clause-within
first_point-requires-clause-within c =
    let fit = holds_here IsFit c.args.ps.now c.loop-p.p-index c.p-item.result c.requires.ps_fit c.loop-p-test.true
    c.p-item.is in fit.within

pub returns-then-not-inside_each : goal.returns-then-not-inside_each
returns-then-not-inside_each c =
    let P = BeginsInEach c.args.bounds.now in
    let says = begins_inside c.args.bounds.now c.p-item.result c.first_point.result c.inside_each.result
    c.first_point.ensures.first c.inside_each.ensures in
    let t = failed_here P c.args.ps.now c.loop-p.p-index c.p-item.result c.inside_each.result c.loop-p-test.true
    c.p-item.is says c.if-not-inside_each.true in (λ h. record { each = t.0 h }, λ h. t.1 h.each)

pub loop-p-preserved : goal.loop-p-preserved
loop-p-preserved c =
    let P = BeginsInEach c.args.bounds.now in
    let says = begins_inside c.args.bounds.now c.p-item.result c.first_point.result c.inside_each.result
    c.first_point.ensures.first c.inside_each.ensures in
    passed_here P c.args.ps.now c.loop-p.p-index c.p-item.result c.loop-p-test.true c.p-item.is c.loop-p.invariant
    (says.0 c.if-not-inside_each.false)

pub returns : goal.returns
returns c =
    let P = BeginsInEach c.args.bounds.now in
    let t = all_passed P c.args.ps.now c.loop-p.p-index c.loop-p-test.false c.loop-p.invariant in
    (λ h. record { each = t.0 h }, λ h. t.1 h.each)
