use Rattle.std.proofs.Common.{◌≡◌, drop}
use Rattle.std.specs.List.{list_any}
use Rattle.plane_joins.specs.inner.Laying.{meets}
use Rattle.plane_joins.proofs.trial.is_met.Given as goal

abbrev pub invariant-loop-q : goal.invariant-loop-q
invariant-loop-q l = list_any (meets l.p) (drop l.q-index l.later) ≡ list_any (meets l.p) l.later
