use Rattle.std.proofs.Common.{◌≡◌, ◌<◌, ◌^◌, arith, List, [], ◌∷◌, ◌++◌, All, sym, subst}
use Rattle.pcb_model.specs.declared.item.Item.{Item}
use Rattle.pcb_model.specs.Copper.{IsPlain}
use Rattle.pcb_model.proofs.Changed.{plain_push, popped}
use Rattle.pcb_model.proofs.plain.PlainCopper.add.Goals as goal

pub invariant_of-self-in-Ok : goal.invariant_of-self-in-Ok
invariant_of-self-in-Ok c =
    let v = c.self.view_is in
    let e : c.args.self.now ≡ c.self.inside.items = cc in
    let above = subst (All (λ (b : Item). b.id < c.args.item.id)) e c.requires.above in
    let within : c.args.item.id < 2 ^ 64 = omega arith in
    let p = plain_push c.self.inside.items c.self.inside.extents c.args.item c.of_item-extent.result c.self.invariant
    above within c.requires.fits c.of_item-extent.ensures.has in
    subst (λ (xs : List Item). IsPlain xs c.push.new.self) (sym c.in-Ok.ensures.ok)
    (subst (IsPlain (c.self.inside.items ++ c.args.item ∷ [])) (sym c.in_default.ensures.ok) p)

pub invariant_of-self-in-Err-push : goal.invariant_of-self-in-Err-push
invariant_of-self-in-Err-push c =
    let x = popped c.self.inside.extents c.push.new.self c.pop.new.self c.of_item-extent.result c.pop.result
    c.in_default.ensures.ok c.pop.ensures in
    subst (λ (xs : List Item). IsPlain xs c.pop.new.self) (sym c.in-Err-push.ensures.err.0)
    (subst (IsPlain c.self.inside.items) (sym x) c.self.invariant)
