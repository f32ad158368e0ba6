use Rattle.std.proofs.Common.{ℕ, ◌<◌, get_or}
use Rattle.pcb_model.specs.declared.item.Item.{Item}
use Rattle.copper_check.specs.Checks.{IsLaidWell}
use Rattle.copper_check.proofs.copper.first_ill_laid.Given as goal

abbrev pub invariant-loop-a : goal.invariant-loop-a
invariant-loop-a l = (k : ℕ) (x : Item) → k < l.a-index → IsLaidWell l.d (get_or l.items k x)
