use Rattle.std.proofs.Common.{◌≡◌, ◌+◌, ◌<◌, List, [], ◌∷◌, ◌++◌, arith, sym, refl, subst}
use Rattle.cut_certificate.specs.declared.cut.Block.{Block}
use Rattle.cut_certificate.specs.Border.{LeadsOut}
use Rattle.cut_certificate.specs.inner.Listing.{Extends}
use Rattle.cut_certificate.proofs.Each.{unless}
use Rattle.cut_certificate.proofs.Blocks.{extends_none, extends_stays, extends_block}
use Rattle.std.specs.Prelude.{IsSome}
use Rattle.std.proofs.lemmas.List.Elements.{All-contains}
use Rattle.cut_certificate.proofs.border.MarkedNodes.push_blocks.Goals as goal
use Rattle.cut_certificate.proofs.border.MarkedNodes.push_blocks.Goals.{then-leads_out+in-Some+in_ok-push}
use Rattle.cut_certificate.proofs.border.MarkedNodes.push_blocks.Goals.{else-leads_out}

pub loop-i-preserved : goal.loop-i-preserved
loop-i-preserved g c =
    let lt : c.loop-i.i < (g.M.Moves.graph c.args.self.now.on).arity =
    omega (arith, c.loop-i-test.true, c.arity-i-end.ensures) in
    elim c.if-leads_out.branch [
      | then-leads_out+in-Some+in_ok-push w ↦
          let b : Block = record { node = c.args.node; index = c.loop-i.i; by = w.in-Some.by } in
          let same : c.if-leads_out.blocked.items ≡ c.loop-i.blocked.items ++ b ∷ [] = let e = w.blocked-is in
          let f = w.in_ok-push.ensures.items in cc in
          subst (λ (bs : List Block). Extends (g.M.Moves.graph c.args.self.now.on).at (g.M.Moves.graph
          c.args.self.now.on).arity
          (g.M.Shuts.shut_by c.args.self.now.on) c.args.self.now.nodes.now c.args.node (c.loop-i.i + 1)
          c.args.blocked.now.items
          bs) (sym same)
          (extends_block (g.M.Moves.graph c.args.self.now.on).at (g.M.Moves.graph c.args.self.now.on).arity
          (g.M.Shuts.shut_by c.args.self.now.on) c.args.self.now.nodes.now c.args.node c.loop-i.i
          c.args.blocked.now.items
          c.loop-i.blocked.items b c.loop-i.invariant refl refl
          (record {
            node_in = c.requires.inside;
            in_range = lt;
            leads_out = c.leads_out.ensures.0 w.if-leads_out.true;
            shut = (w.blocker.ensures.shut w.in-Some.by).1 w.in-Some.is;
          }))
      | else-leads_out w ↦
          let same : c.if-leads_out.blocked.items ≡ c.loop-i.blocked.items = let e = w.blocked-is in cc in
          subst (λ (bs : List Block). Extends (g.M.Moves.graph c.args.self.now.on).at (g.M.Moves.graph
          c.args.self.now.on).arity
          (g.M.Shuts.shut_by c.args.self.now.on) c.args.self.now.nodes.now c.args.node (c.loop-i.i + 1)
          c.args.blocked.now.items
          bs) (sym same)
          (extends_stays (g.M.Moves.graph c.args.self.now.on).at (g.M.Moves.graph c.args.self.now.on).arity
          (g.M.Shuts.shut_by c.args.self.now.on) c.args.self.now.nodes.now c.args.node c.loop-i.i
          c.args.blocked.now.items
          c.loop-i.blocked.items c.loop-i.invariant
          (unless c.leads_out.result
          (LeadsOut (g.M.Moves.graph c.args.self.now.on).at c.args.self.now.nodes.now c.args.node c.loop-i.i)
          c.leads_out.ensures
          w.if-leads_out.false))
    ]

pub loop-i-init : goal.loop-i-init
loop-i-init g c =
    extends_none (g.M.Moves.graph c.args.self.now.on).at (g.M.Moves.graph c.args.self.now.on).arity
    (g.M.Shuts.shut_by c.args.self.now.on) c.args.self.now.nodes.now c.args.node c.args.blocked.now.items
    c.requires.earlier.in_order
    c.requires.earlier.earlier c.requires.earlier.only

pub leads_out-requires-clause-node : goal.leads_out-requires-clause-node
leads_out-requires-clause-node g c =
    All-contains (λ v. v < (g.M.Moves.graph c.args.self.now.on).count) c.args.self.now.nodes.now c.args.node
    c.args.self.now.there c.requires.inside

pub leads_out-requires-clause-index : goal.leads_out-requires-clause-index
leads_out-requires-clause-index g c = omega (arith, c.loop-i-test.true, c.arity-i-end.ensures)

pub blocker-requires-clause-node : goal.blocker-requires-clause-node
blocker-requires-clause-node g c =
    All-contains (λ v. v < (g.M.Moves.graph c.args.self.now.on).count) c.args.self.now.nodes.now c.args.node
    c.args.self.now.there c.requires.inside

pub blocker-requires-clause-index : goal.blocker-requires-clause-index
blocker-requires-clause-index g c = omega (arith, c.loop-i-test.true, c.arity-i-end.ensures)

pub blocker-requires-clause-there : goal.blocker-requires-clause-there
blocker-requires-clause-there g c =
    subst IsSome (sym (c.leads_out.ensures.0 c.if-leads_out.true).leads) refl

pub unreachable-requires : goal.unreachable-requires
unreachable-requires g c =
    let lt : c.loop-i.i < (g.M.Moves.graph c.args.self.now.on).arity =
    omega (arith, c.loop-i-test.true, c.arity-i-end.ensures) in
    absurd (c.requires.closed.each c.args.node c.loop-i.i c.requires.inside lt
    (c.leads_out.ensures.0 c.if-leads_out.true) c.in_default.ensures.open)

pub returns : goal.returns
returns g c =
    let at : c.loop-i.i ≡ (g.M.Moves.graph c.args.self.now.on).arity =
    omega (arith, c.loop-i-test.false, c.loop-i.auto.i-end, c.arity-i-end.ensures) in
    subst (λ n. Extends (g.M.Moves.graph c.args.self.now.on).at (g.M.Moves.graph c.args.self.now.on).arity
    (g.M.Shuts.shut_by c.args.self.now.on) c.args.self.now.nodes.now c.args.node n c.args.blocked.now.items
    c.loop-i.blocked.items)
    at c.loop-i.invariant
