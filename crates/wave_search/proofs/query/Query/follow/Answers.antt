use Rattle.std.proofs.Common.{refl}
use Rattle.wave_search.proofs.Tracing.{same_walk}
use Rattle.wave_search.proofs.query.Query.follow.Goals as goal

pub returns : goal.returns
returns g c = (
  same_walk (g.M.Moves.graph c.args.self.now.m.now) c.args.self.now.starts.now c.args.self.now.goals.now _
      (rw c.if-not-led.false at c.in_ok-led.ensures) _ c.from_vec.ensures c.from_vec-2.ensures refl,
  refl,
)
