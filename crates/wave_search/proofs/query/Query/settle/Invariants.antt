use Rattle.std.proofs.Common.{◌≡◌, ℕ, ◌+◌, ◌*◌, ◌-◌, length}
use Rattle.wave_search.specs.inner.State.{KeepsDone, IsState}
use Rattle.wave_search.proofs.query.Query.settle.Given as goal

abbrev pub invariant-settle : goal.invariant-settle
invariant-settle g l = record {
  size : length l.table ≡ length l.fn.table;
  kept : KeepsDone l.fn.table l.table;
  state : (level : ℕ) × IsState (g.M.Moves.graph l.self.m.now) l.self.starts.now l.self.goals.now
      (g.B.Bound.low_of l.self.b.now) l.table l.front level l.finished 0 (g.M.Moves.graph l.self.m.now).arity;
}

abbrev pub decreases-settle : goal.decreases-settle
decreases-settle g l =
    ((g.M.Moves.graph l.self.m.now).count - l.finished) * ((g.M.Moves.graph l.self.m.now).arity + 1) + length l.front
