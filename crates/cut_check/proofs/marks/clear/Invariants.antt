use Rattle.std.proofs.Common.{take}
use Rattle.cut_check.specs.inner.Marking.{AreCleared}
use Rattle.cut_check.proofs.marks.clear.Given as goal

abbrev pub invariant-loop-node : goal.invariant-loop-node
invariant-loop-node l = AreCleared (take l.node-index l.nodes) l.initial.marks.items l.marks.items
