use Rattle.std.proofs.Common.{◌≡◌, ℕ, ◌<◌, length, filter, take}
use Rattle.pcb_tiles.specs.Cells.{cell_at}
use Rattle.pcb_tiles.specs.Filling.{count_along, stands_at}
use Rattle.pcb_tiles.proofs.fill.spread.Given as goal

abbrev pub invariant-loop-e : goal.invariant-loop-e
invariant-loop-e l = record {
  count : length l.places.items ≡ count_along l.area l.along;
  each : (k : ℕ) → k < count_along l.area l.along
      → cell_at l.places.items k ≡ filter (stands_at l.area l.along k) (take l.e-index l.entries);
}
