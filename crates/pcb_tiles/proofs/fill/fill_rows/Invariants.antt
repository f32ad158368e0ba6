use Rattle.std.proofs.Common.{◌≡◌, take, map}
use Rattle.pcb_tiles.specs.Filling.{row_of_tiles}
use Rattle.pcb_tiles.proofs.fill.fill_rows.Given as goal

abbrev pub invariant-loop-place : goal.invariant-loop-place
invariant-loop-place l = l.rows ≡ map (row_of_tiles l.area) (take l.place-index l.places)
