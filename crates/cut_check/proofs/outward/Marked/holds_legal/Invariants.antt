use Rattle.std.specs.Prelude.{All, take}
use Rattle.cut_check.specs.inner.Outs.{HoldsLegal}
use Rattle.cut_check.proofs.outward.Marked.holds_legal.Given as goal

abbrev pub invariant-loop-node : goal.invariant-loop-node
invariant-loop-node g l =
    All (HoldsLegal l.on.d l.on.lat l.on.items l.net l.self.nodes) (take l.node-index l.starts)
