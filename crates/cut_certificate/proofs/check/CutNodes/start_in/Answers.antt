use Rattle.std.proofs.Common.{refl}
use Rattle.std.specs.Prelude.{Contains}
use Rattle.route_lattice.specs.Anchors.{Anchors}
use Rattle.route_lattice.specs.Legal.{IsLegalNode}
use Rattle.cut_certificate.proofs.Each.{unless, not_needed}
use Rattle.cut_certificate.proofs.check.CutNodes.start_in.Goals as goal

pub returns-then-not-anchor : goal.returns-then-not-anchor
returns-then-not-anchor g c = (
  λ _ a l. absurd
      (unless c.anchor.result (Anchors c.args.self.now.on.d c.args.self.now.on.lat c.args.node c.args.item.now)
      c.anchor.ensures
      c.if-not-anchor.true a),
  λ _. refl,
)

pub returns-then-has : goal.returns-then-has
returns-then-has g c = (λ _ a l. c.has.ensures.0 c.if-has.true, λ _. refl)

pub returns : goal.returns
returns g c =
    not_needed c.is_legal_node.result (Anchors c.args.self.now.on.d c.args.self.now.on.lat c.args.node c.args.item.now)
    (IsLegalNode c.args.self.now.on.d c.args.self.now.on.lat c.args.self.now.on.items c.args.self.now.net c.args.node)
    (Contains c.args.self.now.nodes.now c.args.node)
    c.is_legal_node.ensures (c.anchor.ensures.0 c.if-not-anchor.false)
    (unless c.has.result (Contains c.args.self.now.nodes.now c.args.node) c.has.ensures c.if-has.false)
