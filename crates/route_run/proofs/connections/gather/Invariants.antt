use Rattle.std.proofs.Common.{◌≤◌, ◌*◌, ◌^◌}
use Rattle.std.specs.Prelude.{vec_len}
use Rattle.route_run.specs.inner.Passing.{AreOpenNets}
use Rattle.route_run.proofs.connections.gather.Given as goal

abbrev pub invariant-loop-net : goal.invariant-loop-net
invariant-loop-net l = record {
  few : vec_len l.nets ≤ l.net;
  small : l.count ≤ l.net * 2 ^ 26;
  are : AreOpenNets l.snap.design l.snap.items l.net l.nets.items l.count;
}
