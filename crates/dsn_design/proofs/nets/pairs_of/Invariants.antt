use Rattle.std.proofs.Common.{◌≡◌, take}
use Rattle.dsn_design.proofs.nets.pairs_of.Given as goal

abbrev pub invariant-loop-pair : goal.invariant-loop-pair
invariant-loop-pair l = l.all ≡ take l.pair-index l.pairs
