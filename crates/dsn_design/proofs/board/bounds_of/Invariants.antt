use Rattle.std.proofs.Common.{◌≡◌, take}
use Rattle.dsn_design.specs.Made.{bounds_of}
use Rattle.dsn_design.proofs.board.bounds_of.Given as goal

abbrev pub invariant-loop-bound : goal.invariant-loop-bound
invariant-loop-bound l = l.all ≡ bounds_of (take l.bound-index l.bounds)
