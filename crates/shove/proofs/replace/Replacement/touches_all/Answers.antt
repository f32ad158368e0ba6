use Rattle.std.proofs.Common.{◌≡◌, ◌≤◌, ◌^◌, ℕ, ◌+◌, refl, subst, arith}
use Rattle.shove.specs.inner.Steps.{TouchesBelow}
use Rattle.shove.proofs.Touching.{touches_none, touches_more, touches_end, touches_high, touches_not, refused, unless}
use Rattle.shove.proofs.Touching.{one_of}
use Rattle.std.proofs.lemmas.List.Elements.{All-contains}
use Rattle.pcb_model.specs.declared.item.Item.{Item}
use Rattle.pcb_model.specs.Sound.{IsItemOf}
use Rattle.shove.proofs.replace.Replacement.touches_all.Goals as goal

pub returns-then-not-touch : goal.returns-then-not-touch
returns-then-not-touch g c =
    let items = c.args.self.now.on.items in
    refused _ (touches_not items c.args.self.now.old.now c.args.self.now.new.now c.loop-id.from c.in-Some.id
    c.in-Some-item.other.now
    (one_of items c.in_order.ensures.ascends) c.in-Some.ensures c.in-Some-item.ensures.0 c.in-Some-item.ensures.1
    (unless c.touch.result _ c.touch.ensures c.if-not-touch.true))

pub returns-in_default-checked_add : goal.returns-in_default-checked_add
returns-in_default-checked_add g c =
    let items = c.args.self.now.on.items in
    let high : 2 ^ 64 ≤ c.in-Some.id + 1 = omega (arith, c.in_default-checked_add.ensures) in
    let more = touches_more items c.args.self.now.old.now c.args.self.now.new.now c.loop-id.from c.in-Some.id
    c.in-Some-item.other.now
    c.args.self.now.one_net (one_of items c.in_order.ensures.ascends) c.loop-id.invariant c.in-Some.ensures
    c.in-Some-item.ensures.0 c.in-Some-item.ensures.1
    (c.touch.ensures.0 c.if-not-touch.false) in (
      λ t. touches_high items c.args.self.now.old.now c.args.self.now.new.now
          (c.in-Some.id + 1) more high c.in_order.ensures.ids,
      λ h. refl,
    )

pub loop-id-preserved : goal.loop-id-preserved
loop-id-preserved g c =
    let items = c.args.self.now.on.items in
    let next_is : c.in-Some.id + 1 ≡ c.in-Some-checked_add.next = omega (arith, c.in-Some-checked_add.ensures) in
    subst (λ (from : ℕ). TouchesBelow items c.args.self.now.old.now c.args.self.now.new.now from) next_is
    (touches_more items c.args.self.now.old.now c.args.self.now.new.now c.loop-id.from c.in-Some.id
    c.in-Some-item.other.now
    c.args.self.now.one_net (one_of items c.in_order.ensures.ascends) c.loop-id.invariant c.in-Some.ensures
    c.in-Some-item.ensures.0 c.in-Some-item.ensures.1
    (c.touch.ensures.0 c.if-not-touch.false))

pub returns : goal.returns
returns g c =
    let items = c.args.self.now.on.items in (
      λ t. touches_end items c.args.self.now.old.now c.args.self.now.new.now c.loop-id.from c.loop-id.invariant
          c.in_default.ensures,
      λ h. refl,
    )

pub loop-id-init : goal.loop-id-init
loop-id-init g c = touches_none c.args.self.now.on.items c.args.self.now.old.now c.args.self.now.new.now

pub touch_from-requires : goal.touch_from-requires
touch_from-requires g c = c.requires.old_fits

pub unreachable-requires : goal.unreachable-requires
unreachable-requires g c =
    let f = c.in-Some.ensures in
    absurd (All-contains (λ (b : Item). b.id ≡ c.in-Some.id → ⊥) c.args.self.now.on.items f.item
    c.in_default-item.ensures f.there f.id_is)

pub touch-requires-clause-a_fits : goal.touch-requires-clause-a_fits
touch-requires-clause-a_fits g c = c.requires.new_fits

pub touch-requires-clause-b_fits : goal.touch-requires-clause-b_fits
touch-requires-clause-b_fits g c = c.in-Some-item.ensures.2.fits
