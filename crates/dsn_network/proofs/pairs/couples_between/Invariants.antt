use Rattle.std.proofs.Common.{◌≡◌, ◌≤◌, length, take}
use Rattle.dsn_network.specs.Pairs.{couples}
use Rattle.dsn_network.proofs.pairs.couples_between.Given as goal

abbrev pub invariant-loop-a : goal.invariant-loop-a
invariant-loop-a l = record {
  made : l.found ≡ couples l.same (take l.a-index l.ones) l.others;
  few : length l.found ≤ l.most;
}
