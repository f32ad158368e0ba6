use Rattle.std.proofs.Common.{◌≡◌}
use Rattle.pcb_tiles.proofs.fill.share_cells.Given as goal

abbrev pub invariant-loop-place : goal.invariant-loop-place
invariant-loop-place l = l.cells ≡ l.yielded
