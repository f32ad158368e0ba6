use Rattle.std.proofs.Common.{◌≡◌, ℕ, ◌+◌, ◌*◌, ◌-◌, length}
use Rattle.wave_search.specs.inner.State.{IsState}
use Rattle.wave_search.proofs.query.Query.first_goal.Given as goal

abbrev pub invariant-search : goal.invariant-search
invariant-search g l = record {
  size : length l.table ≡ length l.fn.table;
  state : (level : ℕ) × IsState (g.M.Moves.graph l.self.m.now) l.self.starts.now l.self.goals.now
      (g.B.Bound.low_of l.self.b.now) l.table l.front level l.finished 0 (g.M.Moves.graph l.self.m.now).arity;
}

abbrev pub decreases-search : goal.decreases-search
decreases-search g l =
    ((g.M.Moves.graph l.self.m.now).count - l.finished) * ((g.M.Moves.graph l.self.m.now).arity + 1) + length l.front
