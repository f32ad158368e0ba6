use Rattle.std.proofs.Common.{◌≡◌, ℕ, ◌<◌, length, Some, vec_len}
use Rattle.std.specs.Prelude.{All, Contains}
use Rattle.wave_search.specs.declared.rows.Label.{Label}
use Rattle.wave_search.specs.inner.State.{label_at}
use Rattle.wave_search.proofs.labels.Labels.clear.Given as goal

abbrev pub invariant-loop-v : goal.invariant-loop-v
invariant-loop-v l = record {
  size : length l.self-inside.rows ≡ length l.initial.self-inside.rows;
  nodes : All (λ v. v < length l.self-inside.rows) l.self-inside.touched.items;
  covers : (v : ℕ) (k : Label) → label_at l.self-inside.rows v ≡ Some k → Contains l.self-inside.touched.items v;
}

abbrev pub decreases-loop-v : goal.decreases-loop-v
decreases-loop-v l = vec_len l.self-inside.touched
