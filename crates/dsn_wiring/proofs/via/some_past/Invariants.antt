use Rattle.std.proofs.Common.{◌≡◌, drop}
use Rattle.std.specs.List.{list_any}
use Rattle.dsn_wiring.specs.Vias.{is_past}
use Rattle.dsn_wiring.proofs.via.some_past.Given as goal

abbrev pub invariant-loop-p : goal.invariant-loop-p
invariant-loop-p l = list_any (is_past l.at) (drop l.p-index l.points) ≡ list_any (is_past l.at) l.points
