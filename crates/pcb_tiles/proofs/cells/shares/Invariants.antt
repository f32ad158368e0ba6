use Rattle.std.proofs.Common.{◌≡◌, replicate}
use Rattle.pcb_tiles.proofs.cells.shares.Given as goal

abbrev pub invariant-loop-one : goal.invariant-loop-one
invariant-loop-one g l = l.shares ≡ replicate l._one l.value
