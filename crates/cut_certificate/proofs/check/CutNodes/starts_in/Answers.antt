use Rattle.std.proofs.Common.{ℕ, ◌<◌, arith, refl, below_more}
use Rattle.std.specs.Prelude.{Contains}
use Rattle.route_lattice.specs.Mesh.{node_count}
use Rattle.route_lattice.specs.Anchors.{Anchors}
use Rattle.route_lattice.specs.Legal.{IsLegalNode}
use Rattle.cut_certificate.specs.inner.Checks.{HoldsStarts}
use Rattle.cut_certificate.proofs.Each.{unless, refused}
use Rattle.cut_certificate.proofs.check.CutNodes.starts_in.Goals as goal

pub loop-node-preserved : goal.loop-node-preserved
loop-node-preserved g c =
    below_more (λ (v : ℕ). Anchors c.args.self.now.on.d c.args.self.now.on.lat v c.args.item.now
    → IsLegalNode c.args.self.now.on.d c.args.self.now.on.lat c.args.self.now.on.items c.args.self.now.net v
    → Contains c.args.self.now.nodes.now v) c.loop-node.node c.loop-node.invariant
    (c.start_in.ensures.0 c.if-not-start_in.false)

pub returns : goal.returns
returns g c = (
  λ _ node h. c.loop-node.invariant node (omega (arith, h, c.count-node-end.ensures, c.loop-node-test.false)),
  λ _. refl,
)

pub returns-then-not-start_in : goal.returns-then-not-start_in
returns-then-not-start_in g c =
    let lt : c.loop-node.node < node_count c.args.self.now.on.lat =
    omega (arith, c.loop-node-test.true, c.count-node-end.ensures) in
    refused (HoldsStarts c.args.self.now.on c.args.self.now.net c.args.self.now.nodes.now
    c.args.item.now) (λ h. unless c.start_in.result
    (Anchors c.args.self.now.on.d c.args.self.now.on.lat c.loop-node.node c.args.item.now
    → IsLegalNode c.args.self.now.on.d c.args.self.now.on.lat c.args.self.now.on.items c.args.self.now.net
    c.loop-node.node
    → Contains c.args.self.now.nodes.now c.loop-node.node)
    c.start_in.ensures c.if-not-start_in.true (h c.loop-node.node lt))
