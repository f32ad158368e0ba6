use Rattle.std.proofs.Common.{◌≡◌, ◌++◌, take}
use Rattle.pcb_board.proofs.copy.push_entries.Given as goal

abbrev pub invariant-loop-entry : goal.invariant-loop-entry
invariant-loop-entry l = l.copies ≡ l.fn.copies ++ take l.entry-index l.history
