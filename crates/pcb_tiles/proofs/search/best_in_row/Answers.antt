use Rattle.std.proofs.Common.{◌≡◌, ◌≤◌, ◌+◌, ◌-◌, ℕ, List, length, arith, ap, ◌∙◌, subst}
use Prim.Native.Nat.{suc}
use Rattle.std.specs.List.{range_with_len, sum_by}
use Rattle.pcb_tiles.specs.declared.cells.Entry.{Entry}
use Rattle.pcb_tiles.specs.Cells.{cell_at}
use Rattle.pcb_tiles.specs.Searches.{CellSoFar, RowSoFar}
use Rattle.pcb_tiles.proofs.Ranges.{sum_range_more, sum_range_none}
use Rattle.pcb_tiles.proofs.Best.{at_cell, row_none, row_step}
use Rattle.pcb_tiles.proofs.search.best_in_row.Goals as goal

pub loop-column-init : goal.loop-column-init
loop-column-init g c = record {
  so = row_none (g.S.Seeks.yes c.args.s.now)
      (g.S.Seeks.no c.args.s.now) c.args.from c.args.best c.args.row.now c.args.b.now.first_column;
  cost = omega (arith, sum_range_none (λ column. length (cell_at c.args.row.now column)) c.args.b.now.first_column);
}

pub loop-column-preserved : goal.loop-column-preserved
loop-column-preserved g c =
    let e : c.as_slice.result.now ≡ cell_at c.args.row.now c.loop-column.column =
    c.as_slice.ensures
    ∙ (c.get.ensures ∙ at_cell c.args.row.now c.loop-column.column c.index-row-column.result
    (omega (arith, c.loop-column-test.true, c.requires.row.within)) c.index-row-column.is) in
    let F : List Entry → Type 0 =
    λ es. CellSoFar (g.S.Seeks.yes c.args.s.now)
    (g.S.Seeks.no c.args.s.now) c.args.from c.loop-column.found c.best_in_cell-found.result es in
    record {
      so = row_step (g.S.Seeks.yes c.args.s.now)
          (g.S.Seeks.no c.args.s.now) c.args.from c.args.best c.loop-column.found c.best_in_cell-found.result
          c.args.row.now c.args.b.now.first_column c.loop-column.column c.loop-column.auto.column
          c.loop-column.invariant.so (subst F e c.best_in_cell-found.ensures.so);
      cost = let s =
          sum_range_more (λ column. length (cell_at c.args.row.now column)) c.args.b.now.first_column
          c.loop-column.column c.loop-column.auto.column in
          let n : length c.as_slice.result.now ≡ length (cell_at c.args.row.now c.loop-column.column) = ap length e in
          omega (arith, s, n, c.best_in_cell-found.ensures.cost, c.loop-column.invariant.cost);
    }

pub returns-clause-so : goal.returns-clause-so
returns-clause-so g c =
    let e : c.loop-column.column ≡ suc c.args.b.now.last_column =
    omega (arith, c.loop-column-test.false, c.loop-column.auto.column-end, c.requires.row.columns) in
    let F : ℕ → Type 0 =
    λ n. RowSoFar (g.S.Seeks.yes c.args.s.now)
    (g.S.Seeks.no c.args.s.now) c.args.from c.args.best c.loop-column.found c.args.row.now
    c.args.b.now.first_column n in
    subst F e c.loop-column.invariant.so

pub returns-clause-cost : goal.returns-clause-cost
returns-clause-cost g c =
    let e : c.loop-column.column ≡ suc c.args.b.now.last_column =
    omega (arith, c.loop-column-test.false, c.loop-column.auto.column-end, c.requires.row.columns) in
    let F : ℕ → Type 0 =
    λ n. c.loop-column.steps ≤ c.args.steps.now + sum_by (λ column. length (cell_at c.args.row.now column))
    (range_with_len c.args.b.now.first_column (n - c.args.b.now.first_column)) in
    subst F e c.loop-column.invariant.cost
