use Rattle.std.proofs.Common.{◌≡◌, ℕ, Bool, length, Some}
use Rattle.std.specs.Prelude.{◌↔◌, IsTrue, slice_get}
use Rattle.route_lattice.specs.Legal.{probe_at}
use Rattle.plane_joins.specs.Stubs.{Touches}
use Rattle.plane_stubs.proofs.landings.row_of.Given as goal

abbrev pub invariant-loop-node : goal.invariant-loop-node
invariant-loop-node l = record {
  count : length l.row ≡ l.node;
  each : (v : ℕ) (b : Bool) → slice_get l.row v ≡ Some b
      → IsTrue b ↔ Touches l.moves.on l.moves.net (probe_at l.moves.on.d l.moves.on.lat l.moves.net v l.i);
}
