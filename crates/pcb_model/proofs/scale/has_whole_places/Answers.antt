use Rattle.pcb_model.specs.declared.design.Component.{Component}
use Rattle.pcb_model.specs.Scale.{is_whole_point}
use Rattle.pcb_model.proofs.Answered.{test_fails, test_passes, tests_pass}
use Rattle.pcb_model.proofs.scale.has_whole_places.Goals as goal

pub returns-then-not-has_whole_point : goal.returns-then-not-has_whole_point
returns-then-not-has_whole_point c =
    test_fails (λ (k : Component). is_whole_point c.args.nm k.at) c.args.components.now c.loop-c.c-index
    c.c-item.result c.has_whole_point.result c.loop-c-test.true c.c-item.is
    c.has_whole_point.ensures c.if-not-has_whole_point.true c.loop-c.invariant

pub loop-c-preserved : goal.loop-c-preserved
loop-c-preserved c =
    test_passes (λ (k : Component). is_whole_point c.args.nm k.at) c.args.components.now c.loop-c.c-index
    c.c-item.result c.has_whole_point.result c.loop-c-test.true c.c-item.is
    c.has_whole_point.ensures c.if-not-has_whole_point.false c.loop-c.invariant

pub returns : goal.returns
returns c =
    tests_pass (λ (k : Component). is_whole_point c.args.nm k.at) c.args.components.now c.loop-c.c-index
    c.loop-c-test.false c.loop-c.invariant
