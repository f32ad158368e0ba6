use Rattle.std.proofs.Common.{ℕ, ◌≤◌, ◌^◌, take, All}
use Rattle.pcb_model.specs.declared.design.Typed.{Typed}
use Rattle.pcb_model.proofs.rules.reach_of_typed.Given as goal

abbrev pub invariant-loop-t : goal.invariant-loop-t
invariant-loop-t l = record {
  reaches : All (λ (t : Typed). t.value ≤ l.greatest) (take l.t-index l.ts);
  least : l.least ≤ l.greatest;
  within : l.greatest ≤ 2 ^ 28;
  lowest : (m : ℕ) → l.least ≤ m → All (λ (t : Typed). t.value ≤ m) l.ts → l.greatest ≤ m;
}
