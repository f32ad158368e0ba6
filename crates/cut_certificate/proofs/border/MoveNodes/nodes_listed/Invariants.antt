use Rattle.std.proofs.Common.{take, All}
use Rattle.cut_certificate.specs.inner.Listing.{AllListed}
use Rattle.cut_certificate.proofs.border.MoveNodes.nodes_listed.Given as goal

abbrev pub invariant-loop-v : goal.invariant-loop-v
invariant-loop-v g l =
    All (AllListed (g.M.Moves.graph l.self.on).at (g.M.Moves.graph l.self.on).arity l.self.nodes.now l.blocked) (take
    l.v-index l.self.nodes.now)
