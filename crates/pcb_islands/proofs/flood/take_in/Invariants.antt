use Rattle.std.proofs.Common.{take}
use Rattle.pcb_islands.specs.inner.Flooding.{IsTakenIn}
use Rattle.pcb_islands.proofs.flood.take_in.Given as goal

abbrev pub invariant-loop-id : goal.invariant-loop-id
invariant-loop-id l = IsTakenIn l.fn.reached l.fn.waiting.items (take l.id-index l.ids) l.reached l.waiting.items
