use Rattle.std.proofs.Common.{◌≡◌, take, map}
use Rattle.pcb_tiles.specs.Cells.{entry_of}
use Rattle.pcb_tiles.proofs.fill.entries_of.Given as goal

abbrev pub invariant-loop-a : goal.invariant-loop-a
invariant-loop-a l = l.entries ≡ map entry_of (take l.a-index l.held)
