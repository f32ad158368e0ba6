use Rattle.std.proofs.Common.{◌≡◌, ◌≤◌, vec_len}
use Rattle.route_lattice.proofs.Gathers.{signals_to}
use Rattle.route_lattice.proofs.gather.signals.Given as goal

abbrev pub invariant-loop-i : goal.invariant-loop-i
invariant-loop-i l = record { listed : l.found.items ≡ signals_to l.i l.layers; few : vec_len l.found ≤ l.i }
