use Rattle.std.proofs.Common.{take, All}
use Rattle.cut_certificate.specs.Border.{AreInOrder, IsBlock}
use Rattle.cut_certificate.specs.inner.Listing.{AllListed}
use Rattle.cut_certificate.proofs.Blocks.{AreOfFirst}
use Rattle.cut_certificate.proofs.border.MarkedNodes.blocks_of.Given as goal

abbrev pub invariant-loop-v : goal.invariant-loop-v
invariant-loop-v g l = record {
  in_order : AreInOrder l.blocked.items;
  of_first : AreOfFirst (g.M.Moves.graph l.self.on).at (g.M.Moves.graph l.self.on).arity (g.M.Shuts.shut_by l.self.on)
      l.self.nodes.now l.v-index
      l.blocked.items;
  only : All (IsBlock (g.M.Moves.graph l.self.on).at (g.M.Moves.graph l.self.on).arity (g.M.Shuts.shut_by l.self.on)
      l.self.nodes.now)
      l.blocked.items;
  listed : All (AllListed (g.M.Moves.graph l.self.on).at (g.M.Moves.graph l.self.on).arity l.self.nodes.now
      l.blocked.items)
      (take l.v-index l.self.nodes.now);
}
