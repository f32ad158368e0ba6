use Rattle.std.proofs.Common.{◌≡◌, ◌^◌, take}
use Rattle.std.specs.Prelude.{fold}
use Rattle.wave_search.specs.Around.{nearer_of}
use Rattle.wave_search.proofs.box_bound.nearest_way.Given as goal

abbrev pub invariant-loop-r : goal.invariant-loop-r
invariant-loop-r l = l.least ≡ fold (nearer_of l.p) (2 ^ 31) (take l.r-index l.boxes)
