use Rattle.std.proofs.Common.{ℕ, ◌<◌, ◌⊎◌}
use Rattle.std.specs.Prelude.{Contains}
use Rattle.wave_search.specs.inner.State.{IsStep}
use Rattle.wave_search.specs.inner.Passing.{IsMarked}
use Rattle.wave_search.proofs.query.Query.new_from.Given as goal

abbrev pub invariant-loop-i : goal.invariant-loop-i
invariant-loop-i g l = record {
  led : (v : ℕ) → Contains l.fresh.items v → IsStep (g.M.Moves.graph l.self.m.now) l.table l.node v
      × (IsMarked l.marks v → ⊥);
  every : (v : ℕ) (s : IsStep (g.M.Moves.graph l.self.m.now) l.table l.node v) → s.tight.hop.index < l.i
      → Contains l.fresh.items v ⊎ IsMarked l.marks v;
}
