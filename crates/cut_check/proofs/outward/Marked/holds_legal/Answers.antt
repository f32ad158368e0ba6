use Rattle.cut_certificate.proofs.Each.{each_more, each_true}
use Rattle.cut_check.specs.inner.Outs.{HoldsLegal}
use Rattle.cut_check.proofs.outward.Marked.holds_legal.Goals as goal

pub loop-node-preserved : goal.loop-node-preserved
loop-node-preserved g c =
    let on = c.args.on.now in
    each_more (HoldsLegal on.d on.lat on.items c.args.net c.args.self.now.nodes) c.args.starts.now
    c.loop-node.node-index _ c.loop-node-test.true c.loop-node.invariant
    (c.start_in.ensures.0 c.if-not-start_in.false)

pub returns : goal.returns
returns g c =
    let on = c.args.on.now in
    each_true (HoldsLegal on.d on.lat on.items c.args.net c.args.self.now.nodes) c.args.starts.now
    c.loop-node.node-index c.loop-node-test.false c.loop-node.invariant
