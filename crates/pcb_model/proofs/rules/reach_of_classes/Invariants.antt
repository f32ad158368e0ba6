use Rattle.std.proofs.Common.{ℕ, ◌≤◌, ◌^◌, take, All}
use Rattle.pcb_model.specs.Bounds.{AreRulesWithin}
use Rattle.pcb_model.proofs.rules.reach_of_classes.Given as goal

abbrev pub invariant-loop-rs : goal.invariant-loop-rs
invariant-loop-rs l = record {
  reaches : All (AreRulesWithin l.greatest) (take l.rs-index l.classes);
  least : l.least ≤ l.greatest;
  within : l.greatest ≤ 2 ^ 28;
  lowest : (m : ℕ) → l.least ≤ m → All (AreRulesWithin m) l.classes → l.greatest ≤ m;
}
