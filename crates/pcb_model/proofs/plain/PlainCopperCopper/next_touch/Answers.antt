use Rattle.std.proofs.Common.{◌≡◌, ◌+◌, ◌≤◌, List, length, subst, All, sym}
use Rattle.pcb_model.specs.declared.item.Item.{Item}
use Rattle.pcb_model.specs.Bounds.{IsItemFit}
use Rattle.pcb_model.specs.Copper.{Ascends}
use Rattle.pcb_model.proofs.plain.PlainCopperCopper.next_touch.Goals as goal

pub returns-clause-cost : goal.returns-clause-cost
returns-clause-cost g c =
    let s = c.as_slice.ensures in
    let v = c.self.view_is in
    let e : c.as_slice.result.now ≡ c.args.self.now = cc in
    subst (λ (items : List Item). c.first_touch.new.steps ≤ c.args.steps.now + length items) e
    c.first_touch.ensures.cost

pub first_touch-requires-clause-fit : goal.first_touch-requires-clause-fit
first_touch-requires-clause-fit g c = subst (All IsItemFit) (sym c.as_slice.ensures) c.self.invariant.fit

pub first_touch-requires-clause-ascends : goal.first_touch-requires-clause-ascends
first_touch-requires-clause-ascends g c = subst Ascends (sym c.as_slice.ensures) c.self.invariant.ascends
