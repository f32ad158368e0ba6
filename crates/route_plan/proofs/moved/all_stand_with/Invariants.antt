use Rattle.std.proofs.Common.{take, All}
use Rattle.pcb_model.specs.declared.item.Item.{Item}
use Rattle.least_offer.specs.Together.{StandsWith}
use Rattle.route_plan.specs.inner.Ways.{shove_of}
use Rattle.route_plan.proofs.moved.all_stand_with.Given as goal

abbrev pub invariant-loop-a : goal.invariant-loop-a
invariant-loop-a g l =
    All (λ (a : Item). StandsWith l.on.d l.on.items (shove_of a) (shove_of l.item)) (take l.a-index l.moved)
