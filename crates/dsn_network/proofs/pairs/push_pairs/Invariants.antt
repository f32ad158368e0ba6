use Rattle.std.proofs.Common.{◌≡◌, ◌++◌, map, take}
use Rattle.dsn_network.specs.Pairs.{pair_by}
use Rattle.dsn_network.proofs.pairs.push_pairs.Given as goal

abbrev pub invariant-loop-couple : goal.invariant-loop-couple
invariant-loop-couple l = l.pairs ≡ l.initial.pairs ++ map (pair_by l.rules) (take l.couple-index l.couples)
