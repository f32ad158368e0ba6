use Rattle.std.proofs.Common.{take}
use Rattle.pcb_islands.specs.inner.Progress.{ArePlaced}
use Rattle.pcb_islands.proofs.gather.place_all.Given as goal

abbrev pub invariant-loop-id : goal.invariant-loop-id
invariant-loop-id l = ArePlaced l.fn.places (take l.id-index l.ids) l.place l.places
