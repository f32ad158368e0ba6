use Rattle.std.proofs.Common.{◌≡◌, ◌≤◌, ◌^◌, ◌+◌, ℕ, [], ◌∷◌, ◌++◌, sym, ◌∙◌, ap, subst, arith}
use Rattle.pcb_model.specs.declared.item.Item.{Item}
use Rattle.ses_writer.proofs.Listing.{AreBelow, none_below, one_below, all_below, all_by}
use Rattle.ses_writer.proofs.items.items_of.Goals as goal

pub loop-item-init : goal.loop-item-init
loop-item-init c =
    let items = c.items-copper.result.now.items in
    subst (AreBelow items 0) (sym c.new-items.ensures) (none_below items)

pub loop-item-preserved : goal.loop-item-preserved
loop-item-preserved c =
    let items = c.items-copper.result.now.items in
    let done = c.loop-item.items in
    let item = c.in-Some.item.now in
    let pushed : c.push.new.self ≡ c.loop-item.items ++ c.in-Some.item.now ∷ [] =
    c.in_ok-push.ensures.ok ∙ ap (λ (a : Item). c.loop-item.items ++ a ∷ []) c.in_ok-copy_item.ensures in
    let next_is : c.in-Some.item.now.id + 1 ≡ c.in-Some-checked_add.next =
    omega (arith, c.in-Some-checked_add.ensures) in
    subst (λ (from : ℕ). AreBelow items from c.push.new.self) next_is
    (subst (AreBelow items (item.id + 1)) (sym pushed)
    (one_below items done c.loop-item.from item c.in_order.ensures.ascends c.loop-item.invariant c.in-Some.ensures))

pub returns-in_default-checked_add : goal.returns-in_default-checked_add
returns-in_default-checked_add c =
    let items = c.items-copper.result.now.items in
    let done = c.loop-item.items in
    let item = c.in-Some.item.now in
    let pushed : c.push.new.self ≡ c.loop-item.items ++ c.in-Some.item.now ∷ [] =
    c.in_ok-push.ensures.ok ∙ ap (λ (a : Item). c.loop-item.items ++ a ∷ []) c.in_ok-copy_item.ensures in
    let high : 2 ^ 64 ≤ c.in-Some.item.now.id + 1 = omega (arith, c.in_default-checked_add.ensures) in
    let more = one_below items done c.loop-item.from item c.in_order.ensures.ascends c.loop-item.invariant
    c.in-Some.ensures in
    pushed
    ∙ (all_by items (done ++ item ∷ []) (item.id + 1) (2 ^ 64) more high c.in_order.ensures.ids
    ∙ c.items-copper.ensures.items)

pub returns : goal.returns
returns c =
    let items = c.items-copper.result.now.items in
    all_below items c.loop-item.items c.loop-item.from c.loop-item.invariant c.in_default.ensures
    ∙ c.items-copper.ensures.items
