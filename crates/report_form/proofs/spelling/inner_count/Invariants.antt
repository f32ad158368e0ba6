use Rattle.std.proofs.Common.{◌≡◌, ◌==◌, not, true, take}
use Rattle.std.specs.List.{list_all}
use Rattle.report_form.proofs.spelling.inner_count.Given as goal

abbrev pub invariant-loop-i : goal.invariant-loop-i
invariant-loop-i l = list_all (λ b. not (b == 34)) (take l.i l.text) ≡ true
