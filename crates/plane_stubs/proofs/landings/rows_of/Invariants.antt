use Rattle.std.proofs.Common.{◌≡◌, ℕ, ◌+◌, Bool, List, length, Some}
use Rattle.std.specs.Prelude.{slice_get}
use Rattle.plane_stubs.specs.inner.Landings.{IsLandingRow}
use Rattle.plane_stubs.proofs.landings.rows_of.Given as goal

abbrev pub invariant-loop-i : goal.invariant-loop-i
invariant-loop-i l = record {
  count : length l.rows + 4 ≡ l.i;
  each : (k : ℕ) (row : List Bool) → slice_get l.rows k ≡ Some row
      → IsLandingRow l.moves.on l.moves.net (4 + k) row;
}
