use Rattle.std.proofs.Common.{arith}
use Rattle.cut_certificate.specs.Border.{IsBlock}
use Rattle.cut_certificate.proofs.Each.{unless, refused}
use Rattle.cut_certificate.proofs.border.MoveNodes.is_block.Goals as goal

pub returns-then-not-has : goal.returns-then-not-has
returns-then-not-has g c =
    refused (IsBlock (g.M.Moves.graph c.args.self.now.on).at (g.M.Moves.graph c.args.self.now.on).arity
    (g.M.Shuts.shut_by c.args.self.now.on) c.args.self.now.nodes.now c.args.block.now)
    (λ b. unless c.has.result _ c.has.ensures c.if-not-has.true b.node_in)

pub returns-then-block-arity : goal.returns-then-block-arity
returns-then-block-arity g c =
    refused (IsBlock (g.M.Moves.graph c.args.self.now.on).at (g.M.Moves.graph c.args.self.now.on).arity
    (g.M.Shuts.shut_by c.args.self.now.on) c.args.self.now.nodes.now c.args.block.now)
    (λ b. let below = b.in_range in omega (arith, below, c.arity.ensures, c.if-block-arity.true))

pub returns-then-not-leads_out : goal.returns-then-not-leads_out
returns-then-not-leads_out g c =
    refused (IsBlock (g.M.Moves.graph c.args.self.now.on).at (g.M.Moves.graph c.args.self.now.on).arity
    (g.M.Shuts.shut_by c.args.self.now.on) c.args.self.now.nodes.now c.args.block.now)
    (λ b. unless c.leads_out.result _ c.leads_out.ensures c.if-not-leads_out.true b.leads_out)

pub returns : goal.returns
returns g c = (
  λ t. record {
    node_in = c.has.ensures.0 c.if-not-has.false;
    in_range = omega (arith, c.arity.ensures, c.if-block-arity.false);
    leads_out = c.leads_out.ensures.0 c.if-not-leads_out.false;
    shut = c.is_shut_by.ensures.0 t;
  },
  λ b. c.is_shut_by.ensures.1 b.shut,
)
