use Rattle.std.proofs.Common.{take, All}
use Rattle.pcb_model.specs.declared.item.Item.{Item}
use Rattle.pcb_model.specs.Pairs.{Agrees}
use Rattle.route_plan.proofs.fit.NewItems.all_agree_with.Given as goal

abbrev pub invariant-loop-a : goal.invariant-loop-a
invariant-loop-a g l = All (λ (a : Item). Agrees l.d a l.item) (take l.a-index l.new)
