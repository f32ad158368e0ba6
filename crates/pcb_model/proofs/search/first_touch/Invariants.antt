use Rattle.std.proofs.Common.{◌+◌, ◌≤◌, take, All, Some}
use Rattle.pcb_model.specs.Pairs.{AreTouching}
use Rattle.pcb_model.specs.Copper.{IsLookedAt}
use Rattle.pcb_model.proofs.search.first_touch.Given as goal

abbrev pub invariant-loop-i : goal.invariant-loop-i
invariant-loop-i g l = record {
  passed : All (λ b. IsLookedAt l.from (Some l.a.id) b → ¬ (AreTouching l.a b)) (take l.i l.items);
  cost : l.steps ≤ l.fn.steps + l.i;
}
