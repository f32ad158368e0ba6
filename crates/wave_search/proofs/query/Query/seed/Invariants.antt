use Rattle.std.proofs.Common.{◌≡◌, length, take}
use Rattle.wave_search.specs.inner.State.{IsState}
use Rattle.wave_search.proofs.query.Query.seed.Given as goal

abbrev pub invariant-loop-s : goal.invariant-loop-s
invariant-loop-s g l = record {
  size : length l.table ≡ length l.initial.table;
  state : IsState (g.M.Moves.graph l.self.m.now) (take l.s-index l.self.starts.now) l.self.goals.now
      (g.B.Bound.low_of l.self.b.now) l.table l.front 0 0 0 (g.M.Moves.graph l.self.m.now).arity;
}
