use Rattle.std.proofs.Common.{◌-◌}
use Rattle.wave_search.specs.inner.Passing.{IsAt}
use Rattle.wave_search.proofs.query.Query.pass_to.Given as goal

abbrev pub invariant-pass : goal.invariant-pass
invariant-pass g l = IsAt (g.M.Moves.graph l.self.m.now) l.self.starts.now l.self.goals.now l.table l.price l.pass l.k

abbrev pub decreases-pass : goal.decreases-pass
decreases-pass g l = (g.M.Moves.graph l.self.m.now).count - l.k
