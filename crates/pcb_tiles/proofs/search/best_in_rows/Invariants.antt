use Rattle.std.proofs.Common.{◌≤◌, ◌+◌, ◌-◌, length}
use Rattle.std.specs.List.{range_with_len, sum_by}
use Rattle.pcb_tiles.specs.Tiling.{columns_of}
use Rattle.pcb_tiles.specs.Cells.{cell_at, row_in}
use Rattle.pcb_tiles.specs.Searches.{RowsSoFar}
use Rattle.pcb_tiles.proofs.search.best_in_rows.Given as goal

abbrev pub invariant-loop-row : goal.invariant-loop-row
invariant-loop-row g l = record {
  so : RowsSoFar (g.S.Seeks.yes l.s) (g.S.Seeks.no l.s) l.from l.found l.rows l.b l.row;
  cost : l.steps ≤ l.fn.steps + sum_by
      (λ row. sum_by (λ column. length (cell_at (row_in l.rows row) column)) (columns_of l.b))
      (range_with_len l.b.first_row (l.row - l.b.first_row));
}
