use Rattle.std.proofs.Common.{get_or}
use Rattle.pcb_model.specs.Scale.{is_whole_padstack}
use Rattle.pcb_model.proofs.Answered.{test_fails, test_passes, tests_pass, get_or_any}
use Rattle.pcb_model.proofs.scale.has_whole_padstacks.Goals as goal

pub returns-then-not-has_whole_padstack : goal.returns-then-not-has_whole_padstack
returns-then-not-has_whole_padstack c =
    let x = get_or c.args.padstacks.now c.loop-p.p-index 0 in
    test_fails (is_whole_padstack c.args.d.now c.args.nm) c.args.padstacks.now c.loop-p.p-index x
    c.has_whole_padstack.result c.loop-p-test.true (get_or_any c.args.padstacks.now c.loop-p.p-index 0 x
    c.loop-p-test.true)
    c.has_whole_padstack.ensures c.if-not-has_whole_padstack.true c.loop-p.invariant

pub loop-p-preserved : goal.loop-p-preserved
loop-p-preserved c =
    let x = get_or c.args.padstacks.now c.loop-p.p-index 0 in
    test_passes (is_whole_padstack c.args.d.now c.args.nm) c.args.padstacks.now c.loop-p.p-index x
    c.has_whole_padstack.result c.loop-p-test.true (get_or_any c.args.padstacks.now c.loop-p.p-index 0 x
    c.loop-p-test.true)
    c.has_whole_padstack.ensures c.if-not-has_whole_padstack.false c.loop-p.invariant

pub returns : goal.returns
returns c =
    tests_pass (is_whole_padstack c.args.d.now c.args.nm) c.args.padstacks.now c.loop-p.p-index c.loop-p-test.false
    c.loop-p.invariant
