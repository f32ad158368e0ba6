use Rattle.cut_check.specs.inner.Outs.{AreOutsSoFar}
use Rattle.cut_check.proofs.outward.Marked.outs.Given as goal

abbrev pub invariant-loop-node : goal.invariant-loop-node
invariant-loop-node g l = AreOutsSoFar (g.M.Moves.graph l.self.moves) l.self.nodes l.node-index l.count
