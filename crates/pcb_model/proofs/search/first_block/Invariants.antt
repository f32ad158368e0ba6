use Rattle.std.proofs.Common.{◌+◌, ◌≤◌, take, All, None}
use Rattle.pcb_model.specs.Pairs.{ProbeAgrees}
use Rattle.pcb_model.specs.Copper.{IsLookedAt}
use Rattle.pcb_model.proofs.search.first_block.Given as goal

abbrev pub invariant-loop-i : goal.invariant-loop-i
invariant-loop-i g l = record {
  passed : All (λ b. IsLookedAt l.from None b → ProbeAgrees l.d l.net l.p b) (take l.i l.items);
  cost : l.steps ≤ l.fn.steps + l.i;
}
