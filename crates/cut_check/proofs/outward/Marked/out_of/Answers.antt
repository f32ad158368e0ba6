use Rattle.std.proofs.Common.{◌≡◌, ◌+◌, ◌<◌, ◌≤◌, ap, arith, subst, sym, ℕ}
use Rattle.std.specs.Prelude.{Contains}
use Rattle.cut_certificate.specs.Border.{LeadsOut}
use Rattle.cut_certificate.proofs.Each.{unless}
use Rattle.cut_check.specs.inner.Outs.{AddsOuts}
use Rattle.cut_check.proofs.Outgoing.{adds_block, adds_stays}
use Rattle.cut_check.proofs.outward.Marked.out_of.Goals as goal
use Rattle.cut_check.proofs.outward.Marked.out_of.Goals.{then-leads_out+else-is_open, else-leads_out}

pub is_open-requires-clause-node : goal.is_open-requires-clause-node
is_open-requires-clause-node g c =
    c.self.invariant.3.there c.args.node (subst (λ s. Contains s.nodes c.args.node) (sym c.self.view_is)
    c.requires.there)

pub leads_out-requires-clause-node : goal.leads_out-requires-clause-node
leads_out-requires-clause-node g c =
    subst (λ s. c.args.node < (g.M.Moves.graph s.moves).count) c.self.view_is
    (c.self.invariant.3.there c.args.node (subst (λ s. Contains s.nodes c.args.node) (sym c.self.view_is)
    c.requires.there))

pub loop-i-preserved : goal.loop-i-preserved
loop-i-preserved g c =
    let graph = g.M.Moves.graph c.args.self.now.moves in
    let nodes = c.args.self.now.nodes in
    let same : c.self.inside.moves.now ≡ c.args.self.now.moves = ap (λ s. s.moves) c.self.view_is in
    let within : c.loop-i.i < graph.arity =
    subst (λ moves. c.loop-i.i < (g.M.Moves.graph moves).arity) same
    (omega (arith, c.loop-i-test.true, c.arity-i-end.ensures)) in
    let low = c.loop-i.invariant.1 in
    elim c.if-leads_out.branch [
      | then-leads_out+else-is_open w ↦
          subst (λ (n : ℕ). AddsOuts graph nodes c.args.node (c.loop-i.i + 1) n × (n ≤ c.loop-i.i + 1))
          (sym w.count-is) (
            adds_block graph nodes c.args.node c.loop-i.i c.loop-i.count c.loop-i.invariant.0 c.requires.there within
                (c.leads_out.ensures.0 w.if-leads_out.true)
                (λ open_. w.if-is_open.ensures.shut
                (subst (λ moves. (g.M.Moves.graph moves).open_at c.args.node c.loop-i.i) (sym same) open_)),
            omega (arith, low),
          )
      | else-leads_out w ↦
          subst (λ (n : ℕ). AddsOuts graph nodes c.args.node (c.loop-i.i + 1) n × (n ≤ c.loop-i.i + 1))
          (sym w.count-is) (
            adds_stays graph nodes c.args.node c.loop-i.i c.loop-i.count c.loop-i.invariant.0
                (unless c.leads_out.result (LeadsOut graph.at nodes c.args.node c.loop-i.i) c.leads_out.ensures
                w.if-leads_out.false),
            omega (arith, low),
          )
    ]
