use Rattle.std.proofs.Common.{◌<◌, ◌^◌}
use Rattle.wave_search.proofs.Laying.{IsLaying}
use Rattle.wave_search.proofs.query.Query.lay.Given as goal

abbrev pub invariant-back : goal.invariant-back
invariant-back g l = record {
  laying : IsLaying (g.M.Moves.graph l.self.m.now) l.self.starts.now l.self.goals.now l.table l.price l.pass l.place
      l.at l.node l.nodes.items l.moves.items;
  small : l.at < 2 ^ 32;
}

abbrev pub decreases-back : goal.decreases-back
decreases-back g l = l.at
