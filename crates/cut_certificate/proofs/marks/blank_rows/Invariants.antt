use Rattle.cut_certificate.specs.inner.Rows.{AreBlank}
use Rattle.cut_certificate.proofs.marks.blank_rows.Given as goal

abbrev pub invariant-loop-row : goal.invariant-loop-row
invariant-loop-row l = AreBlank l._row l.rows.items
