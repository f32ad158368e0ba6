use Rattle.std.proofs.Common.{get_or}
use Rattle.route_lattice.specs.Anchors.{Anchors}
use Rattle.cut_certificate.proofs.Each.{each_more, each_true, each_false, unless}
use Rattle.cut_certificate.proofs.check.CutNodes.none_anchors.Goals as goal

pub loop-node-preserved : goal.loop-node-preserved
loop-node-preserved g c =
    each_more (λ v. Anchors c.args.self.now.on.d c.args.self.now.on.lat v c.args.item.now → ⊥)
    c.args.self.now.nodes.now c.loop-node.node-index 0
    c.loop-node-test.true c.loop-node.invariant
    (unless c.anchor.result
    (Anchors c.args.self.now.on.d c.args.self.now.on.lat (get_or c.args.self.now.nodes.now
    c.loop-node.node-index 0) c.args.item.now)
    c.anchor.ensures c.if-anchor.false)

pub returns : goal.returns
returns g c = each_true (λ v. Anchors c.args.self.now.on.d c.args.self.now.on.lat v c.args.item.now → ⊥)
    c.args.self.now.nodes.now
    c.loop-node.node-index c.loop-node-test.false c.loop-node.invariant

pub returns-then-anchor : goal.returns-then-anchor
returns-then-anchor g c =
    each_false (λ v. Anchors c.args.self.now.on.d c.args.self.now.on.lat v c.args.item.now → ⊥)
    c.args.self.now.nodes.now c.loop-node.node-index
    0 c.loop-node-test.true (λ f. f (c.anchor.ensures.0 c.if-anchor.true))
