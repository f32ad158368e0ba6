use Rattle.std.proofs.Common.{All, take}
use Rattle.pcb_islands.specs.declared.net.Island.{Island}
use Rattle.plane_joins.specs.Stubs.{BeginsWith}
use Rattle.plane_stubs.proofs.pins.beginning.Given as goal

abbrev pub invariant-loop-place : goal.invariant-loop-place
invariant-loop-place l = All (λ (s : Island). ¬ (BeginsWith l.pin s)) (take l.place l.found)
