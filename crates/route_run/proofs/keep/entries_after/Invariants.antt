use Rattle.std.proofs.Common.{◌≡◌}
use Rattle.std.specs.Prelude.{sum_by, take}
use Rattle.route_run.specs.declared.facts.PassLine.{PassLine}
use Rattle.route_run.proofs.keep.entries_after.Given as goal

abbrev pub invariant-loop-line : goal.invariant-loop-line
invariant-loop-line l = l.entries ≡ sum_by (λ (line : PassLine). line.commits) (take l.line-index l.line-items)
