use Rattle.std.proofs.Common.{rules, ◌≡◌, ◌≤◌, ◌+◌, ◌-◌, ℕ, List, length, arith, ap, ◌∙◌, subst}
use Prim.Native.Nat.{suc}
use Rattle.std.specs.List.{range_with_len, sum_by}
use Rattle.pcb_tiles.specs.declared.cells.Entry.{Entry}
use Rattle.pcb_tiles.specs.Tiling.{columns_of}
use Rattle.pcb_tiles.specs.Cells.{cell_at, row_in}
use Rattle.pcb_tiles.specs.Searches.{RowSoFar, RowsSoFar}
use Rattle.pcb_tiles.proofs.Ranges.{sum_range_more, sum_range_none}
use Rattle.pcb_tiles.proofs.Best.{at_row, rows_none, rows_step}
use Rattle.pcb_tiles.proofs.search.best_in_rows.Goals as goal

pub loop-row-init : goal.loop-row-init
loop-row-init g c = record {
  so = rows_none (g.S.Seeks.yes c.args.s.now) (g.S.Seeks.no c.args.s.now) c.args.from c.args.rows.now c.args.b.now;
  cost = omega (
    arith,
    sum_range_none
        (λ row. sum_by (λ column. length (cell_at (row_in c.args.rows.now row) column)) (columns_of c.args.b.now))
        c.args.b.now.first_row,
  );
}

pub loop-row-preserved : goal.loop-row-preserved
loop-row-preserved g c =
    let e : c.as_slice.result.now ≡ row_in c.args.rows.now c.loop-row.row =
    c.as_slice.ensures
    ∙ (c.get.ensures ∙ at_row c.args.rows.now c.loop-row.row c.index-rows-row.result
    (omega (arith, c.loop-row-test.true, c.requires.rows.within)) c.index-rows-row.is) in
    let F : List (List Entry) → Type 0 =
    λ es. RowSoFar (g.S.Seeks.yes c.args.s.now)
    (g.S.Seeks.no c.args.s.now) c.args.from c.loop-row.found c.best_in_row-found.result es
    c.args.b.now.first_column (suc c.args.b.now.last_column) in
    let cost_of : List (List Entry) → ℕ =
    λ r. sum_by (λ column. length (cell_at r column)) (columns_of c.args.b.now) in
    record {
      so = rows_step (g.S.Seeks.yes c.args.s.now)
          (g.S.Seeks.no c.args.s.now) c.args.from c.loop-row.found c.best_in_row-found.result c.args.rows.now
          c.args.b.now c.loop-row.row c.loop-row.auto.row c.loop-row.invariant.so
          (subst F e c.best_in_row-found.ensures.so);
      cost = let s =
          sum_range_more (λ row. cost_of (row_in c.args.rows.now row)) c.args.b.now.first_row c.loop-row.row
          c.loop-row.auto.row in
          let n : cost_of c.as_slice.result.now ≡ cost_of (row_in c.args.rows.now c.loop-row.row) = ap cost_of e in
          omega (arith, s, n, c.best_in_row-found.ensures.cost, c.loop-row.invariant.cost);
    }

pub returns-clause-so : goal.returns-clause-so
returns-clause-so g c =
    let e : c.loop-row.row ≡ suc c.args.b.now.last_row =
    omega (arith, c.loop-row-test.false, c.loop-row.auto.row-end, c.requires.rows.order) in
    let F : ℕ → Type 0 =
    λ n. RowsSoFar (g.S.Seeks.yes c.args.s.now)
    (g.S.Seeks.no c.args.s.now) c.args.from c.loop-row.found c.args.rows.now c.args.b.now n in
    subst F e c.loop-row.invariant.so

pub returns-clause-cost : goal.returns-clause-cost
returns-clause-cost g c =
    let e : c.loop-row.row ≡ suc c.args.b.now.last_row =
    omega (arith, c.loop-row-test.false, c.loop-row.auto.row-end, c.requires.rows.order) in
    let F : ℕ → Type 0 =
    λ n. c.loop-row.steps ≤ c.args.steps.now + sum_by
    (λ row. sum_by (λ column. length (cell_at (row_in c.args.rows.now row) column)) (columns_of c.args.b.now))
    (range_with_len c.args.b.now.first_row (n - c.args.b.now.first_row)) in
    subst F e c.loop-row.invariant.cost

pub best_in_row-found-requires-clause-row : goal.best_in_row-found-requires-clause-row
best_in_row-found-requires-clause-row g c =
    record { entries = search rules; within = search rules; columns = c.requires.rows.columns }
