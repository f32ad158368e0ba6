use Rattle.geo_kernel.specs.Spine.{IsInside}
use Rattle.pcb_model.proofs.Answered.{failed_here, passed_here, all_passed}
use Rattle.pcb_model.proofs.legal.inside_each.Goals as goal

pub returns-then-not-inside : goal.returns-then-not-inside
returns-then-not-inside c =
    let P = IsInside c.args.p in
    let t = failed_here P c.args.bounds.now c.loop-loops.loops-index c.loops-item.result c.inside.result
    c.loop-loops-test.true c.loops-item.is c.inside.ensures c.if-not-inside.true in
    (λ h. record { each = t.0 h }, λ h. t.1 h.each)

pub loop-loops-preserved : goal.loop-loops-preserved
loop-loops-preserved c =
    let P = IsInside c.args.p in
    passed_here P c.args.bounds.now c.loop-loops.loops-index c.loops-item.result c.loop-loops-test.true c.loops-item.is
    c.loop-loops.invariant (c.inside.ensures.0 c.if-not-inside.false)

pub returns : goal.returns
returns c =
    let P = IsInside c.args.p in
    let t = all_passed P c.args.bounds.now c.loop-loops.loops-index c.loop-loops-test.false c.loop-loops.invariant in
    (λ h. record { each = t.0 h }, λ h. t.1 h.each)
