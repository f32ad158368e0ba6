use Rattle.std.proofs.Common.{All, take}
use Rattle.move_maps.specs.Starts.{StaysNear}
use Rattle.move_maps.proofs.centred.stay_near.Given as goal

-- the coordinates so far
abbrev pub invariant-loop-z : goal.invariant-loop-z
invariant-loop-z l = All (StaysNear l.low l.high) (take l.z-index l.zs)
