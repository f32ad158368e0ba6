use Rattle.std.proofs.Common.{ℕ, List, true≢false, sym, ◌∙◌, subst}
use Rattle.std.proofs.lemmas.List.{take_all}
use Rattle.route_lattice.specs.Legal.{AreThoseOf, IsLegalNode}
use Rattle.route_lattice.proofs.Among.{kept_more, kept_same}
use Rattle.route_lattice.proofs.legal.legal_among.Goals as goal
use Rattle.route_lattice.proofs.legal.legal_among.Goals.{then-legal_node+in_ok-push, else-legal_node}

pub loop-node-preserved : goal.loop-node-preserved
loop-node-preserved g c =
    let P = IsLegalNode c.args.d.now c.args.lat.now (g.C.Copper.items c.args.c.now) c.args.net in
    elim c.if-legal_node.branch [
      | then-legal_node+in_ok-push w ↦
          kept_more P c.args.nodes.now c.loop-node.legal c.if-legal_node.legal c.loop-node.node-index
          c.loop-node-test.true c.loop-node.invariant (c.legal_node.ensures.0 w.if-legal_node.true)
          (w.legal-is ∙ w.in_ok-push.ensures.ok)
      | else-legal_node w ↦
          kept_same P c.args.nodes.now c.loop-node.legal c.if-legal_node.legal c.loop-node.node-index
          c.loop-node-test.true c.loop-node.invariant
          (λ h. true≢false (sym (c.legal_node.ensures.1 h) ∙ w.if-legal_node.false)) w.legal-is
    ]

pub returns : goal.returns
returns g c =
    let P = IsLegalNode c.args.d.now c.args.lat.now (g.C.Copper.items c.args.c.now) c.args.net in
    subst (λ (xs : List ℕ). AreThoseOf P xs c.loop-node.legal)
    (take_all c.loop-node.node-index c.args.nodes.now c.loop-node-test.false) c.loop-node.invariant
