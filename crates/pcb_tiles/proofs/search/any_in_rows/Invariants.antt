use Rattle.std.proofs.Common.{◌≤◌, ◌+◌, ◌-◌, length}
use Rattle.std.specs.List.{range_with_len, sum_by}
use Rattle.pcb_tiles.specs.Tiling.{columns_of}
use Rattle.pcb_tiles.specs.Cells.{cell_at, row_in}
use Rattle.pcb_tiles.specs.Searches.{AreRowsPassed}
use Rattle.pcb_tiles.proofs.search.any_in_rows.Given as goal

abbrev pub invariant-loop-at : goal.invariant-loop-at
invariant-loop-at g l = record {
  passed : AreRowsPassed (g.S.Seeks.no l.s) l.rows l.b l.at;
  cost : l.steps ≤ l.fn.steps + sum_by
      (λ row. sum_by (λ column. length (cell_at (row_in l.rows row) column)) (columns_of l.b))
      (range_with_len l.b.first_row (l.at - l.b.first_row));
}
