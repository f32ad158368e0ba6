use Rattle.std.proofs.Common.{◌≡◌, ◌<◌, ◌-◌, ◌^◌, Some}
use Rattle.wave_search.specs.inner.State.{label_at}
use Rattle.wave_search.proofs.Tracing.{Passed}
use Rattle.wave_search.proofs.query.Query.follow_into.Given as goal

abbrev pub invariant-loop-way : goal.invariant-loop-way
invariant-loop-way g l = record {
  there : label_at l.table l.at ≡ Some l.here;
  inside : l.at < (g.M.Moves.graph l.self.m.now).count;
  small : l.here.rank < 2 ^ 32;
  passed : Passed (g.M.Moves.graph l.self.m.now) l.self.starts.now l.nodes.items l.moves.items l.at l.here.price;
}

abbrev pub decreases-loop-way : goal.decreases-loop-way
decreases-loop-way g l = 2 ^ 32 - l.here.rank
