use Rattle.std.proofs.Common.{◌*◌}
use Rattle.cut_certificate.specs.declared.marks.TheConstants.{ROW}
use Rattle.cut_certificate.specs.inner.Marks.{AreListed}
use Rattle.cut_certificate.proofs.marks.Marks.marked.Given as goal

abbrev pub invariant-loop-row : goal.invariant-loop-row
invariant-loop-row l = AreListed l.self (l.row * ROW) l.nodes
