use Rattle.std.proofs.Common.{◌≡◌, ◌≤◌, ◌++◌, length, take}
use Rattle.dsn_network.specs.Pairs.{couples_with}
use Rattle.dsn_network.proofs.pairs.push_couples.Given as goal

abbrev pub invariant-loop-b : goal.invariant-loop-b
invariant-loop-b l = record {
  made : l.couples ≡ l.initial.couples ++ couples_with l.same (take l.b-index l.others) l.a;
  few : length l.initial.couples ≤ l.most → length l.couples ≤ l.most;
}
