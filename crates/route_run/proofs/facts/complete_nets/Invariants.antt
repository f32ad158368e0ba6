use Rattle.std.proofs.Common.{◌≡◌, ◌++◌, drop}
use Rattle.route_run.specs.Runs.{complete_from}
use Rattle.route_run.proofs.facts.complete_nets.Given as goal

abbrev pub invariant-loop-cuts : goal.invariant-loop-cuts
invariant-loop-cuts l = record {
  at : l.net ≡ l.cuts-index;
  nets : l.nets ++ complete_from l.net (drop l.cuts-index l.cuts-items) ≡ complete_from 0 l.cuts-items;
}
