use Rattle.std.proofs.Common.{ℕ, ◌<◌}
use Rattle.plane_joins.specs.inner.Graph.{EndsBy}
use Rattle.plane_stubs.proofs.stub_moves.StubMoves.end_of.Given as goal

abbrev pub invariant-loop-i : goal.invariant-loop-i
invariant-loop-i l = (j : ℕ) → j < l.i → EndsBy l.self.on.on l.self.on.net l.node j → ⊥
