use Rattle.std.proofs.Common.{◌≡◌, ◌<◌, Some}
use Rattle.wave_search.specs.inner.State.{label_at}
use Rattle.wave_search.proofs.Tracing.{Walked}
use Rattle.wave_search.proofs.query.Query.trace_into.Given as goal

abbrev pub invariant-loop-here : goal.invariant-loop-here
invariant-loop-here g l = record {
  there : label_at l.table l.at ≡ Some l.here;
  is_done : 0 < l.here.rank;
  walked : Walked (g.M.Moves.graph l.self.m.now) l.nodes.items l.moves.items l.at l.fn.node l.here.price
      l.fn.label.price;
}

abbrev pub decreases-loop-here : goal.decreases-loop-here
decreases-loop-here g l = l.here.rank
