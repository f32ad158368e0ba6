use Rattle.std.proofs.Common.{List, ℕ, subst}
use Rattle.std.specs.Prelude.{Contains, ◌↔◌}
use Rattle.wave_search.proofs.marks.Goals.of.Goals as goal

pub invariant_of-result : goal.invariant_of-result
invariant_of-result c = λ v.
    subst (λ (xs : List ℕ). Contains c.in_ok-marks.marks v ↔ Contains xs v) c.as_slice.ensures (c.in_ok-marks.ensures v)
