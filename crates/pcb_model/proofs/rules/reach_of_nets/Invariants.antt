use Rattle.std.proofs.Common.{ℕ, ◌≤◌, ◌^◌, take, All}
use Rattle.pcb_model.specs.declared.design.Net.{Net}
use Rattle.pcb_model.specs.Bounds.{AreRulesWithin}
use Rattle.pcb_model.proofs.rules.reach_of_nets.Given as goal

abbrev pub invariant-loop-n : goal.invariant-loop-n
invariant-loop-n l = record {
  reaches : All (λ (n : Net). AreRulesWithin l.greatest n.rules) (take l.n-index l.nets);
  least : l.least ≤ l.greatest;
  within : l.greatest ≤ 2 ^ 28;
  lowest : (m : ℕ) → l.least ≤ m → All (λ (n : Net). AreRulesWithin m n.rules) l.nets → l.greatest ≤ m;
}
