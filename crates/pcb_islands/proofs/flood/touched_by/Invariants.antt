use Rattle.std.proofs.Common.{◌-◌, ◌^◌}
use Rattle.pcb_islands.specs.inner.Flooding.{AreTouchedBelow}
use Rattle.pcb_islands.proofs.flood.touched_by.Given as goal

abbrev pub invariant-loop-id : goal.invariant-loop-id
invariant-loop-id g l = AreTouchedBelow (g.C.Copper.items l.c) l.a l.from l.ids.items

abbrev pub decreases-loop-id : goal.decreases-loop-id
decreases-loop-id g l = 2 ^ 64 - l.from
