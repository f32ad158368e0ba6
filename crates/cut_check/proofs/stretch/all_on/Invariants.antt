use Rattle.std.proofs.Common.{All, take}
use Rattle.cut_check.specs.Stretches.{IsOnLattice}
use Rattle.cut_check.proofs.stretch.all_on.Given as goal

abbrev pub invariant-loop-s : goal.invariant-loop-s
invariant-loop-s l = All (IsOnLattice l.lat) (take l.s-index l.runs)
