use Rattle.pcb_model.specs.Scale.{is_whole_net}
use Rattle.pcb_model.proofs.Answered.{test_fails, test_passes, tests_pass}
use Rattle.pcb_model.proofs.scale.has_whole_nets.Goals as goal

pub returns-then-not-has_whole_net : goal.returns-then-not-has_whole_net
returns-then-not-has_whole_net c =
    test_fails (is_whole_net c.args.d.now c.args.nm) c.args.nets.now c.loop-n.n-index c.n-item.result
    c.has_whole_net.result c.loop-n-test.true c.n-item.is
    c.has_whole_net.ensures c.if-not-has_whole_net.true c.loop-n.invariant

pub loop-n-preserved : goal.loop-n-preserved
loop-n-preserved c =
    test_passes (is_whole_net c.args.d.now c.args.nm) c.args.nets.now c.loop-n.n-index c.n-item.result
    c.has_whole_net.result c.loop-n-test.true c.n-item.is
    c.has_whole_net.ensures c.if-not-has_whole_net.false c.loop-n.invariant

pub returns : goal.returns
returns c =
    tests_pass (is_whole_net c.args.d.now c.args.nm) c.args.nets.now c.loop-n.n-index c.loop-n-test.false
    c.loop-n.invariant
