use Rattle.pcb_model.specs.declared.design.FreeWire.{FreeWire}
use Rattle.pcb_model.specs.Scale.{is_whole_metal}
use Rattle.pcb_model.proofs.Answered.{test_fails, test_passes, tests_pass}
use Rattle.pcb_model.proofs.scale.has_whole_free.Goals as goal

pub returns-then-not-has_whole_metal : goal.returns-then-not-has_whole_metal
returns-then-not-has_whole_metal c =
    test_fails (λ (w : FreeWire). is_whole_metal c.args.d.now c.args.nm w.metal) c.args.free.now c.loop-w.w-index
    c.w-item.result c.has_whole_metal.result c.loop-w-test.true c.w-item.is
    c.has_whole_metal.ensures c.if-not-has_whole_metal.true c.loop-w.invariant

pub loop-w-preserved : goal.loop-w-preserved
loop-w-preserved c =
    test_passes (λ (w : FreeWire). is_whole_metal c.args.d.now c.args.nm w.metal) c.args.free.now c.loop-w.w-index
    c.w-item.result c.has_whole_metal.result c.loop-w-test.true c.w-item.is
    c.has_whole_metal.ensures c.if-not-has_whole_metal.false c.loop-w.invariant

pub returns : goal.returns
returns c =
    tests_pass (λ (w : FreeWire). is_whole_metal c.args.d.now c.args.nm w.metal) c.args.free.now c.loop-w.w-index
    c.loop-w-test.false c.loop-w.invariant
