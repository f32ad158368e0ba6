use Rattle.std.proofs.Common.{◌≡◌, ℕ, take, All}
use Rattle.pcb_model.proofs.legal.has_via.Given as goal

abbrev pub invariant-loop-v : goal.invariant-loop-v
invariant-loop-v l = All (λ (v : ℕ). ¬ (v ≡ l.padstack)) (take l.v-index l.vias)
