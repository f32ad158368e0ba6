use Rattle.std.proofs.Common.{◌≡◌, ℕ, cond, ◌&&◌, ◌++◌, ◌∷◌, [], length, ltb}
use Rattle.std.specs.Prelude.{leb}
use Rattle.pcb_tiles.specs.Cells.{cell_at}
use Rattle.pcb_tiles.proofs.fill.push_in_run.Given as goal

abbrev pub invariant-loop-at : goal.invariant-loop-at
invariant-loop-at l = record {
  count : length l.places.items ≡ length l.fn.places.items;
  each : (k : ℕ) → cell_at l.places.items k
      ≡ cond (leb l.fn.r.first k && ltb k l.at) (cell_at l.fn.places.items k ++ l.e ∷ []) (cell_at l.fn.places.items k);
}
