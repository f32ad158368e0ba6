use Rattle.std.proofs.Common.{List}
use Rattle.geo_kernel.specs.declared.point.Point.{Point}
use Rattle.geo_kernel.specs.Spine.{IsInside}
use Rattle.pcb_model.specs.Bounds.{IsBoundFit}
use Rattle.pcb_model.proofs.Answered.{holds_here, passed_here, failed_here, all_passed}
use Rattle.move_maps.proofs.inner.is_inside.Goals as goal

pub loop-loops-preserved : goal.loop-loops-preserved
loop-loops-preserved c =
    passed_here (λ (loops : List (List Point)). IsInside c.args.at loops) c.args.bounds.now c.loop-loops.loops-index
    c.loops-item.result c.loop-loops-test.true c.loops-item.is c.loop-loops.invariant
    (c.inside.ensures.0 c.if-not-inside.false)

pub returns-then-not-inside : goal.returns-then-not-inside
returns-then-not-inside c =
    let t = failed_here (λ (loops : List (List Point)). IsInside c.args.at loops) c.args.bounds.now
    c.loop-loops.loops-index c.loops-item.result c.inside.result
    c.loop-loops-test.true c.loops-item.is c.inside.ensures c.if-not-inside.true in
    (λ h. record { each = t.0 h }, λ h. t.1 h.each)

pub returns : goal.returns
returns c =
    let t = all_passed (λ (loops : List (List Point)). IsInside c.args.at loops) c.args.bounds.now
    c.loop-loops.loops-index c.loop-loops-test.false
    c.loop-loops.invariant in
    (λ h. record { each = t.0 h }, λ h. t.1 h.each)

pub inside-requires-clause-some : goal.inside-requires-clause-some
inside-requires-clause-some c =
    (holds_here IsBoundFit c.args.bounds.now c.loop-loops.loops-index c.loops-item.result c.requires.bounds
    c.loop-loops-test.true c.loops-item.is).loops_close

pub inside-requires-clause-loops_within : goal.inside-requires-clause-loops_within
inside-requires-clause-loops_within c =
    (holds_here IsBoundFit c.args.bounds.now c.loop-loops.loops-index c.loops-item.result c.requires.bounds
    c.loop-loops-test.true c.loops-item.is).loops_within
