use Rattle.std.proofs.Common.{All}
use Rattle.cut_certificate.specs.Border.{AreBlocks, AreInOrder, IsBlock}
use Rattle.cut_certificate.proofs.Each.{unless, refused}
use Rattle.cut_certificate.proofs.Blocks.{blocks_from_listed, listed_from_blocks}
use Rattle.cut_certificate.proofs.border.MoveNodes.are_blocks.Goals as goal

pub returns-then-not-in_order : goal.returns-then-not-in_order
returns-then-not-in_order g c =
    refused (AreBlocks (g.M.Moves.graph c.args.self.now.on).at (g.M.Moves.graph c.args.self.now.on).arity
    (g.M.Shuts.shut_by c.args.self.now.on) c.args.self.now.nodes.now c.args.blocked.now)
    (λ a. unless c.in_order.result (AreInOrder c.args.blocked.now) c.in_order.ensures c.if-not-in_order.true a.in_order)

pub returns-then-not-all_blocks : goal.returns-then-not-all_blocks
returns-then-not-all_blocks g c =
    refused (AreBlocks (g.M.Moves.graph c.args.self.now.on).at (g.M.Moves.graph c.args.self.now.on).arity
    (g.M.Shuts.shut_by c.args.self.now.on) c.args.self.now.nodes.now c.args.blocked.now)
    (λ a. unless c.all_blocks.result
    (All (IsBlock (g.M.Moves.graph c.args.self.now.on).at (g.M.Moves.graph c.args.self.now.on).arity
    (g.M.Shuts.shut_by c.args.self.now.on) c.args.self.now.nodes.now) c.args.blocked.now) c.all_blocks.ensures
    c.if-not-all_blocks.true a.only)

pub returns : goal.returns
returns g c = (
  λ h. blocks_from_listed (g.M.Moves.graph c.args.self.now.on).at (g.M.Moves.graph c.args.self.now.on).arity
      (g.M.Shuts.shut_by c.args.self.now.on) c.args.self.now.nodes.now c.args.blocked.now
      (c.in_order.ensures.0 c.if-not-in_order.false) (c.all_blocks.ensures.0 c.if-not-all_blocks.false)
      (c.nodes_listed.ensures.0 h),
  λ a. c.nodes_listed.ensures.1
      (listed_from_blocks (g.M.Moves.graph c.args.self.now.on).at (g.M.Moves.graph c.args.self.now.on).arity
      (g.M.Shuts.shut_by c.args.self.now.on) c.args.self.now.nodes.now c.args.blocked.now a),
)
