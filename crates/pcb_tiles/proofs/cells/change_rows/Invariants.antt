use Rattle.std.proofs.Common.{◌≡◌, map}
use Rattle.std.specs.List.{range_with_len}
use Rattle.pcb_tiles.specs.Cells.{next_row}
use Rattle.pcb_tiles.proofs.cells.change_rows.Given as goal

abbrev pub invariant-loop-i : goal.invariant-loop-i
invariant-loop-i l = l.changed ≡ map (next_row l.change l.b l.rows) (range_with_len 0 l.i)
