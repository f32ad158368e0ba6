use Rattle.std.proofs.Common.{◌≤◌, ◌+◌, ◌-◌, length}
use Rattle.std.specs.List.{range_with_len, sum_by}
use Rattle.pcb_tiles.specs.Cells.{cell_at}
use Rattle.pcb_tiles.specs.Searches.{IsRowPassed}
use Rattle.pcb_tiles.proofs.search.any_in_row.Given as goal

abbrev pub invariant-loop-at : goal.invariant-loop-at
invariant-loop-at g l = record {
  passed : IsRowPassed (g.S.Seeks.no l.s) l.row l.b.first_column l.at;
  cost : l.steps ≤ l.fn.steps + sum_by (λ column. length (cell_at l.row column))
      (range_with_len l.b.first_column (l.at - l.b.first_column));
}
