use Rattle.std.proofs.Common.{All, take}
use Rattle.dsn_design.specs.Usable.{IsCovered}
use Rattle.dsn_design.proofs.usable.are_covered.Given as goal

abbrev pub invariant-loop-p : goal.invariant-loop-p
invariant-loop-p l = All (IsCovered l.all) (take l.p-index l.all)
