use Rattle.cut_certificate.specs.inner.Listing.{Extends}
use Rattle.cut_certificate.proofs.border.MarkedNodes.push_blocks.Given as goal

abbrev pub invariant-loop-i : goal.invariant-loop-i
invariant-loop-i g l =
    Extends (g.M.Moves.graph l.self.on).at (g.M.Moves.graph l.self.on).arity (g.M.Shuts.shut_by l.self.on)
    l.self.nodes.now l.node l.i
    l.initial.blocked.items l.blocked.items
