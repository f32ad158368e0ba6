use Rattle.std.proofs.Common.{◌≡◌, ◌<◌, List, Some, ℕ}
use Rattle.std.specs.Prelude.{slice_get}
use Rattle.pcb_islands.specs.declared.net.Island.{Island}
use Rattle.report_form.specs.declared.reading.ReadCut.{ReadCut}
use Rattle.route_check.specs.inner.Kept.{HasItsCuts}
use Rattle.route_check.proofs.lines.first_false_line.Given as goal

abbrev pub invariant-loop-net : goal.invariant-loop-net
invariant-loop-net l = (i : ℕ) (os : List Island) (ks : List ReadCut) → i < l.net → slice_get l.found i ≡ Some os
    → slice_get l.nets i ≡ Some ks → HasItsCuts os ks
