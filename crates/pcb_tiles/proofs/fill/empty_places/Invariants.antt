use Rattle.std.proofs.Common.{◌≡◌, ℕ, [], length}
use Rattle.pcb_tiles.specs.Cells.{cell_at}
use Rattle.pcb_tiles.proofs.fill.empty_places.Given as goal

abbrev pub invariant-loop-one : goal.invariant-loop-one
invariant-loop-one l = record {
  count : length l.places.items ≡ l._one;
  each : (k : ℕ) → cell_at l.places.items k ≡ [];
}
