use Rattle.std.proofs.Common.{ℕ, ◌≡◌, ◌<◌, Some, slice_get}
use Rattle.pcb_model.specs.Rules.{class_in}
use Rattle.pcb_model.proofs.greatest.net_of.Given as goal

abbrev pub invariant-loop-i : goal.invariant-loop-i
invariant-loop-i l = (k : ℕ) → k < l.i → class_in (slice_get l.nets k) ≡ Some l.class → ⊥
