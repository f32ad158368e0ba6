use Rattle.std.proofs.Common.{◌+◌, ◌*◌, sym, subst, ◌∙◌, arith}
use Rattle.std.proofs.lemmas.Bool.{eqb-true}
use Rattle.cut_certificate.specs.declared.marks.TheConstants.{ROW}
use Rattle.cut_certificate.specs.inner.Marks.{AreListed}
use Rattle.cut_certificate.proofs.Rows.{row_starts, rows_end, none_here, listed_on, listed_all}
use Rattle.cut_certificate.proofs.marks.Marks.marked.Goals as goal
use Rattle.cut_certificate.proofs.marks.Marks.marked.Goals.{then-not-is_empty+in_ok-list_row, else-not-is_empty}

pub list_row-requires-clause-row : goal.list_row-requires-clause-row
list_row-requires-clause-row c =
    row_starts c.self.inside.count c.self.inside.rows.items c.args.self.now c.self.view_is c.self.invariant
    c.loop-row.row (omega (arith, c.loop-row-test.true, c.len-row-end.ensures, c.self.inside.rows.ok))

pub loop-row-preserved : goal.loop-row-preserved
loop-row-preserved c =
    let marks = c.args.self.now in
    let row = c.loop-row.row in
    elim c.if-not-is_empty.branch [
      | then-not-is_empty+in_ok-list_row w ↦ subst (AreListed marks ((row + 1) * ROW)) (sym w.nodes-is)
          w.in_ok-list_row.ensures
      | else-not-is_empty w ↦ subst (AreListed marks ((row + 1) * ROW)) (sym w.nodes-is)
          (listed_on marks (row * ROW) ((row + 1) * ROW) c.loop-row.nodes (omega arith)
          (λ v low high. none_here c.self.inside.count c.self.inside.rows.items marks c.self.view_is c.self.invariant
          v row c.index.result.now low high
          (omega (arith, c.loop-row-test.true, c.len-row-end.ensures, c.self.inside.rows.ok)) c.index.ensures
          (eqb-true _ 0 (sym c.is_empty.ensures ∙ w.if-not-is_empty.false))) c.loop-row.invariant)
    ]

pub returns : goal.returns
returns c =
    listed_all c.args.self.now _ c.loop-row.nodes
    (rows_end c.self.inside.count c.self.inside.rows.items c.args.self.now c.self.view_is c.self.invariant
    c.loop-row.row (omega (arith, c.loop-row-test.false, c.len-row-end.ensures, c.self.inside.rows.ok)))
    c.loop-row.invariant
