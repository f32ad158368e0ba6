use Rattle.std.proofs.Common.{◌<◌}
use Rattle.wave_search.specs.inner.State.{IsTight}
use Rattle.wave_search.proofs.query.Query.tight_to.Given as goal

abbrev pub invariant-loop-i : goal.invariant-loop-i
invariant-loop-i g l =
    (tight : IsTight (g.M.Moves.graph l.self.m.now) l.from l.before l.to l.price) → tight.hop.index < l.i → ⊥
