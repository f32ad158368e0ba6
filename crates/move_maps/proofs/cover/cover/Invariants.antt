use Rattle.std.proofs.Common.{take}
use Rattle.move_maps.proofs.Covering.{IsSoFar}
use Rattle.move_maps.proofs.cover.cover.Given as goal

-- the window covers the steps, and the vias so far
abbrev pub invariant-loop-padstack : goal.invariant-loop-padstack
invariant-loop-padstack l = IsSoFar l.group.d l.group.lat l.group.first l.extent (take l.padstack-index
    l.padstack-items) l.window
