use Rattle.std.proofs.Common.{ℕ, ◌≤◌, ◌^◌, take, All}
use Rattle.pcb_model.specs.declared.design.ClassPair.{ClassPair}
use Rattle.pcb_model.specs.Bounds.{AreRulesWithin}
use Rattle.pcb_model.proofs.rules.reach_of_pairs.Given as goal

abbrev pub invariant-loop-p : goal.invariant-loop-p
invariant-loop-p l = record {
  reaches : All (λ (p : ClassPair). AreRulesWithin l.greatest p.rules) (take l.p-index l.pairs);
  least : l.least ≤ l.greatest;
  within : l.greatest ≤ 2 ^ 28;
  lowest : (m : ℕ) → l.least ≤ m → All (λ (p : ClassPair). AreRulesWithin m p.rules) l.pairs → l.greatest ≤ m;
}
