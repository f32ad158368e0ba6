use Rattle.std.proofs.Common.{ℕ, ◌+◌, ◌<◌}
use Rattle.std.specs.Prelude.{slice_index}
use Rattle.cut_check.proofs.marks.ascends.Given as goal

abbrev pub invariant-loop-k : goal.invariant-loop-k
invariant-loop-k l = record {
  above : 0 < l.k;
  rises : (j : ℕ) → j + 1 < l.k → slice_index l.nodes j < slice_index l.nodes (j + 1);
}
