use Rattle.pcb_model.specs.declared.item.Item.{Item}
use Rattle.pcb_model.specs.Scale.{is_whole_metal}
use Rattle.pcb_model.proofs.Answered.{test_fails, test_passes, tests_pass}
use Rattle.pcb_model.proofs.scale.has_whole_items.Goals as goal

pub returns-then-not-has_whole_metal : goal.returns-then-not-has_whole_metal
returns-then-not-has_whole_metal c =
    test_fails (λ (a : Item). is_whole_metal c.args.d.now c.args.nm a.metal) c.args.items.now c.loop-a.a-index
    c.a-item.result c.has_whole_metal.result c.loop-a-test.true c.a-item.is
    c.has_whole_metal.ensures c.if-not-has_whole_metal.true c.loop-a.invariant

pub loop-a-preserved : goal.loop-a-preserved
loop-a-preserved c =
    test_passes (λ (a : Item). is_whole_metal c.args.d.now c.args.nm a.metal) c.args.items.now c.loop-a.a-index
    c.a-item.result c.has_whole_metal.result c.loop-a-test.true c.a-item.is
    c.has_whole_metal.ensures c.if-not-has_whole_metal.false c.loop-a.invariant

pub returns : goal.returns
returns c =
    tests_pass (λ (a : Item). is_whole_metal c.args.d.now c.args.nm a.metal) c.args.items.now c.loop-a.a-index
    c.loop-a-test.false c.loop-a.invariant
