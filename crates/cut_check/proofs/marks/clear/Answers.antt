use Rattle.std.proofs.Common.{refl}
use Rattle.cut_check.proofs.Marking.{cleared_all, cleared_more, cleared_none}
use Rattle.cut_check.proofs.marks.clear.Goals as goal

pub loop-node-init : goal.loop-node-init
loop-node-init c = cleared_none c.args.nodes.now c.args.marks.now.items

pub loop-node-preserved : goal.loop-node-preserved
loop-node-preserved c =
    cleared_more c.args.nodes.now c.args.marks.now.items c.loop-node.marks.items _ c.loop-node.node-index
    c.loop-node.invariant c.loop-node-test.true refl

pub returns : goal.returns
returns c = cleared_all c.args.nodes.now c.args.marks.now.items c.loop-node.marks.items c.loop-node.node-index
    c.loop-node-test.false c.loop-node.invariant
