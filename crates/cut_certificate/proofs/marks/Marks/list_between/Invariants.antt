use Rattle.std.proofs.Common.{◌≤◌}
use Rattle.cut_certificate.specs.inner.Marks.{AreListed}
use Rattle.cut_certificate.proofs.marks.Marks.list_between.Given as goal

abbrev pub invariant-loop-node : goal.invariant-loop-node
invariant-loop-node l = (l.node ≤ l.last) × AreListed l.self l.node l.nodes
