use Rattle.std.proofs.Common.{ℕ, ◌<◌, get_or}
use Rattle.pcb_model.specs.declared.item.Item.{Item}
use Rattle.copper_check.specs.Checks.{IsWithinEdges}
use Rattle.copper_check.proofs.copper.first_outside.Given as goal

abbrev pub invariant-loop-a : goal.invariant-loop-a
invariant-loop-a l = (k : ℕ) (x : Item) → k < l.a-index → IsWithinEdges l.d (get_or l.items k x)
