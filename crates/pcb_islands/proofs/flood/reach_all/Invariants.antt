use Rattle.pcb_islands.specs.inner.Flooding.{IsFlooded, work}
use Rattle.pcb_islands.proofs.flood.reach_all.Given as goal

abbrev pub invariant-loop-id : goal.invariant-loop-id
invariant-loop-id g l = IsFlooded (g.C.Copper.items l.c) l.start l.reached l.waiting.items

abbrev pub decreases-loop-id : goal.decreases-loop-id
decreases-loop-id g l = work (g.C.Copper.items l.c) l.reached l.waiting.items
