use Rattle.std.proofs.Common.{◌≤◌, ◌*◌, ◌^◌}
use Rattle.closing_pass.specs.inner.Counting.{CountsFirst}
use Rattle.closing_pass.proofs.count.count_on.Given as goal

abbrev pub invariant-loop-net : goal.invariant-loop-net
invariant-loop-net l = record {
  small : l.count ≤ l.net * 2 ^ 26;
  are : CountsFirst l.snap.design l.snap.items l.net l.count;
}
