use Rattle.std.proofs.Common.{refl}
use Rattle.wave_search.proofs.Tracing.{same_walk}
use Rattle.wave_search.proofs.query.Query.trace.Goals as goal

pub returns-clause-walk : goal.returns-clause-walk
returns-clause-walk g c =
    same_walk (g.M.Moves.graph c.args.self.now.m.now) c.args.self.now.starts.now c.args.self.now.goals.now _
    c.in_ok-trace_into.ensures _ c.from_vec.ensures c.from_vec-2.ensures refl
