use Rattle.std.proofs.Common.{◌≡◌, ◌+◌, ◌≤◌, List, length, None, subst, sym}
use Rattle.pcb_model.specs.declared.item.Item.{Item}
use Rattle.pcb_model.specs.Pairs.{ProbeAgrees}
use Rattle.pcb_model.specs.Copper.{Finds, Ascends}
use Rattle.pcb_model.proofs.plain.PlainCopperCopper.next_block.Goals as goal

pub returns-clause-finds : goal.returns-clause-finds
returns-clause-finds g c =
    let s = c.as_slice.ensures in
    let v = c.self.view_is in
    let e : c.as_slice.result.now ≡ c.args.self.now = cc in
    subst (λ (items : List Item). Finds (λ b. ProbeAgrees c.args.d.now c.args.net c.args.p.now b → ⊥)
    (ProbeAgrees c.args.d.now c.args.net c.args.p.now) c.args.from None items c.first_block.result) e
    c.first_block.ensures.finds

pub returns-clause-cost : goal.returns-clause-cost
returns-clause-cost g c =
    let s = c.as_slice.ensures in
    let v = c.self.view_is in
    let e : c.as_slice.result.now ≡ c.args.self.now = cc in
    subst (λ (items : List Item). c.first_block.new.steps ≤ c.args.steps.now + length items) e
    c.first_block.ensures.cost

pub first_block-requires-clause-ascends : goal.first_block-requires-clause-ascends
first_block-requires-clause-ascends g c = subst Ascends (sym c.as_slice.ensures) c.self.invariant.ascends
