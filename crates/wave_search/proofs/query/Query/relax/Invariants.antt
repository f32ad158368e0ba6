use Rattle.std.proofs.Common.{◌≡◌, ◌+◌, ◌≤◌, length}
use Rattle.wave_search.specs.inner.State.{KeepsDone, IsState}
use Rattle.wave_search.proofs.query.Query.relax.Given as goal

abbrev pub invariant-loop-i : goal.invariant-loop-i
invariant-loop-i g l = record {
  kept : KeepsDone l.initial.table l.table;
  size : length l.table ≡ length l.initial.table;
  len : length l.front ≤ length l.initial.front + l.i;
  state : IsState (g.M.Moves.graph l.self.m.now) l.self.starts.now l.self.goals.now (g.B.Bound.low_of l.self.b.now)
      l.table l.front (l.label.price + g.B.Bound.low_of l.self.b.now l.node) l.label.rank l.node l.i;
}
