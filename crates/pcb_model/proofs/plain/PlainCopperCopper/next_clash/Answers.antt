use Rattle.std.proofs.Common.{◌≡◌, ◌+◌, ◌≤◌, List, length, Some, subst, sym}
use Rattle.pcb_model.specs.declared.item.Item.{Item}
use Rattle.pcb_model.specs.Pairs.{Agrees}
use Rattle.pcb_model.specs.Copper.{Finds, Ascends}
use Rattle.pcb_model.proofs.plain.PlainCopperCopper.next_clash.Goals as goal

pub returns-clause-finds : goal.returns-clause-finds
returns-clause-finds g c =
    let s = c.as_slice.ensures in
    let v = c.self.view_is in
    let e : c.as_slice.result.now ≡ c.args.self.now = cc in
    subst (λ (items : List Item). Finds (λ b. Agrees c.args.d.now c.args.a.now b → ⊥) (Agrees c.args.d.now c.args.a.now)
    c.args.from (Some c.args.a.now.id) items c.first_clash.result) e c.first_clash.ensures.finds

pub returns-clause-cost : goal.returns-clause-cost
returns-clause-cost g c =
    let s = c.as_slice.ensures in
    let v = c.self.view_is in
    let e : c.as_slice.result.now ≡ c.args.self.now = cc in
    subst (λ (items : List Item). c.first_clash.new.steps ≤ c.args.steps.now + length items) e
    c.first_clash.ensures.cost

pub first_clash-requires-clause-ascends : goal.first_clash-requires-clause-ascends
first_clash-requires-clause-ascends g c = subst Ascends (sym c.as_slice.ensures) c.self.invariant.ascends
