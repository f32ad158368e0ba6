use Rattle.std.proofs.Common.{◌≤◌, ◌+◌, ◌-◌, length}
use Rattle.std.specs.List.{range_with_len, sum_by}
use Rattle.pcb_tiles.specs.Cells.{cell_at}
use Rattle.pcb_tiles.specs.Searches.{RowSoFar}
use Rattle.pcb_tiles.proofs.search.best_in_row.Given as goal

abbrev pub invariant-loop-column : goal.invariant-loop-column
invariant-loop-column g l = record {
  so : RowSoFar (g.S.Seeks.yes l.s) (g.S.Seeks.no l.s) l.from l.fn.best l.found l.row l.b.first_column l.column;
  cost : l.steps ≤ l.fn.steps + sum_by (λ column. length (cell_at l.row column))
      (range_with_len l.b.first_column (l.column - l.b.first_column));
}
