use Rattle.std.proofs.Common.{◌≡◌, ◌==◌, take, length}
use Rattle.std.specs.Prelude.{count_by}
use Rattle.report_form.proofs.nets.complete_count.Given as goal

abbrev pub invariant-loop-cuts : goal.invariant-loop-cuts
invariant-loop-cuts l = l.count ≡ count_by (λ cuts. length cuts == 0) (take l.cuts-index l.nets)
