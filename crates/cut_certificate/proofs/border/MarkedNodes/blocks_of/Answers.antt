use Rattle.std.proofs.Common.{refl}
use Rattle.cut_certificate.specs.inner.Listing.{AllListed}
use Rattle.cut_certificate.proofs.Each.{each_true}
use Rattle.cut_certificate.proofs.Blocks.{first_more, more_listed, blocks_from_listed}
use Rattle.cut_certificate.proofs.border.MarkedNodes.blocks_of.Goals as goal

pub loop-v-preserved : goal.loop-v-preserved
loop-v-preserved g c = record {
  in_order = c.in_ok-push_blocks.ensures.in_order;
  of_first = first_more (g.M.Moves.graph c.args.self.now.on).at (g.M.Moves.graph c.args.self.now.on).arity
      (g.M.Shuts.shut_by c.args.self.now.on) c.args.self.now.nodes.now c.loop-v.v-index c.loop-v.blocked.items
      c.push_blocks.new.blocked.items c.args.self.now.ascend c.in_ok-push_blocks.ensures;
  only = c.in_ok-push_blocks.ensures.only;
  listed = more_listed (g.M.Moves.graph c.args.self.now.on).at (g.M.Moves.graph c.args.self.now.on).arity
      (g.M.Shuts.shut_by c.args.self.now.on) c.args.self.now.nodes.now c.loop-v.v-index c.loop-v.blocked.items
      c.push_blocks.new.blocked.items c.loop-v-test.true c.loop-v.invariant.listed c.in_ok-push_blocks.ensures;
}

pub returns : goal.returns
returns g c =
    blocks_from_listed (g.M.Moves.graph c.args.self.now.on).at (g.M.Moves.graph c.args.self.now.on).arity
    (g.M.Shuts.shut_by c.args.self.now.on) c.args.self.now.nodes.now c.loop-v.blocked.items c.loop-v.invariant.in_order
    c.loop-v.invariant.only
    ((each_true (AllListed (g.M.Moves.graph c.args.self.now.on).at (g.M.Moves.graph c.args.self.now.on).arity
    c.args.self.now.nodes.now
    c.loop-v.blocked.items) c.args.self.now.nodes.now c.loop-v.v-index c.loop-v-test.false c.loop-v.invariant.listed).0
    refl)
