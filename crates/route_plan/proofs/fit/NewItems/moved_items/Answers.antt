use Rattle.std.proofs.Common.{◌≡◌, None, Some, List, get_or, take, subst, sym, All}
use Rattle.std.specs.Prelude.{Contains}
use Rattle.pcb_model.specs.declared.item.Item.{Item}
use Rattle.pcb_model.specs.Copper.{Ascends}
use Rattle.pcb_model.specs.Sound.{IsItemOf}
use Rattle.shove.proofs.Touching.{unless}
use Rattle.least_offer.specs.Together.{StandsWith}
use Rattle.route_plan.specs.inner.NewItems.{NewItemsOf}
use Rattle.route_plan.specs.inner.Ways.{shove_of, IsReshaped, FindsFirst}
use Rattle.route_plan.proofs.Moving.{is_moved, all_reshaped, is_reshaped, one_moved, no_item, no_fit, no_stand}
use Rattle.route_plan.proofs.fit.NewItems.moved_items.Goals as goal

pub returns-in_default : goal.returns-in_default
returns-in_default g c =
    let y = c.args.self.now in
    let none = subst (λ (y : NewItemsOf). All (λ (a : Item).
    a.id ≡ get_or c.args.ids.now c.loop-id.id-index 0 → ⊥) y.on.items) c.self.view_is c.in_default.ensures in
    no_item y.on.d y.on.lat y.on.items y.new c.args.ids.now c.loop-id.id-index c.loop-id-test.true none

pub returns-in-Ok-None : goal.returns-in-Ok-None
returns-in-Ok-None g c =
    let y = c.args.self.now in
    let item = c.in-Some.item.now in
    let up = subst (λ (y : NewItemsOf). Ascends y.on.items) c.self.view_is c.in_order.ensures.ascends in
    let there = subst (λ (y : NewItemsOf). Contains y.on.items item) c.self.view_is c.in-Some.ensures.0 in
    no_fit y.on.d y.on.lat y.on.items y.new c.args.ids.now c.loop-id.id-index c.loop-id-test.true up item there
    c.in-Some.ensures.1
    (subst (FindsFirst y.on.d y.on.lat y.on.items y.new item) {x = _} {y = None} c.in-Ok-None.field-0-is
    c.in-Ok-None.ensures)

pub first_fit-requires : goal.first_fit-requires
first_fit-requires g c =
    subst (λ (y : NewItemsOf). IsItemOf y.on.d c.in-Some.item.now) c.self.view_is c.in-Some.ensures.2

pub all_stand_with-requires-clause-moved : goal.all_stand_with-requires-clause-moved
all_stand_with-requires-clause-moved g c =
    let y = c.args.self.now in
    let all = subst (λ (xs : List Item). All (IsReshaped y.on.d y.on.items) xs) (sym c.as_slice.ensures)
    (all_reshaped y.on.d y.on.lat y.on.items y.new (take c.loop-id.id-index c.args.ids.now) c.loop-id.moved
    c.loop-id.invariant.each) in
    subst (λ (y : NewItemsOf). All (IsReshaped y.on.d y.on.items) c.as_slice.result.now) (sym c.self.view_is) all

pub all_stand_with-requires-clause-item_moved : goal.all_stand_with-requires-clause-item_moved
all_stand_with-requires-clause-item_moved g c =
    let y = c.args.self.now in
    let item = c.in-Some.item.now in
    let id = get_or c.args.ids.now c.loop-id.id-index 0 in
    let there = subst (λ (y : NewItemsOf). Contains y.on.items item) c.self.view_is c.in-Some.ensures.0 in
    let moved = is_moved y.on.d y.on.lat y.on.items y.new id item c.in-Ok-Some.fitting there c.in-Some.ensures.1
    (subst (FindsFirst y.on.d y.on.lat y.on.items y.new item) {x = _} {y = Some c.in-Ok-Some.fitting}
    c.in-Ok-Some.field-0-is c.in-Ok-Some.ensures) in
    subst (λ (y : NewItemsOf). IsReshaped y.on.d y.on.items c.in-Ok-Some.fitting) (sym c.self.view_is)
    (is_reshaped y.on.d y.on.lat y.on.items y.new id c.in-Ok-Some.fitting moved)

pub returns-then-not-all_stand_with : goal.returns-then-not-all_stand_with
returns-then-not-all_stand_with g c =
    let y = c.args.self.now in
    let item = c.in-Some.item.now in
    let id = get_or c.args.ids.now c.loop-id.id-index 0 in
    let fitting = c.in-Ok-Some.fitting in
    let up = subst (λ (y : NewItemsOf). Ascends y.on.items) c.self.view_is c.in_order.ensures.ascends in
    let there = subst (λ (y : NewItemsOf). Contains y.on.items item) c.self.view_is c.in-Some.ensures.0 in
    let moved = is_moved y.on.d y.on.lat y.on.items y.new id item fitting there c.in-Some.ensures.1
    (subst (FindsFirst y.on.d y.on.lat y.on.items y.new item) {x = _} {y = Some fitting}
    c.in-Ok-Some.field-0-is c.in-Ok-Some.ensures) in
    let not = unless c.all_stand_with.result _ c.all_stand_with.ensures c.if-not-all_stand_with.true in
    no_stand y.on.d y.on.lat y.on.items y.new c.args.ids.now c.loop-id.id-index c.loop-id-test.true
    (λ ids ss ts h k. c.shoves_are_one.ensures.one y.on.d y.on.lat y.on.items y.new ids ss ts up h k)
    c.loop-id.moved fitting c.loop-id.invariant moved
    (λ all. not
    (subst (λ (y : NewItemsOf). All (λ (a : Item). StandsWith y.on.d y.on.items (shove_of a) (shove_of fitting))
    c.as_slice.result.now) (sym c.self.view_is)
    (subst (λ (xs : List Item). All (λ (a : Item). StandsWith y.on.d y.on.items (shove_of a) (shove_of fitting)) xs)
    (sym c.as_slice.ensures) all)))

pub loop-id-preserved : goal.loop-id-preserved
loop-id-preserved g c =
    let y = c.args.self.now in
    let item = c.in-Some.item.now in
    let id = get_or c.args.ids.now c.loop-id.id-index 0 in
    let fitting = c.in-Ok-Some.fitting in
    let there = subst (λ (y : NewItemsOf). Contains y.on.items item) c.self.view_is c.in-Some.ensures.0 in
    let moved = is_moved y.on.d y.on.lat y.on.items y.new id item fitting there c.in-Some.ensures.1
    (subst (FindsFirst y.on.d y.on.lat y.on.items y.new item) {x = _} {y = Some fitting}
    c.in-Ok-Some.field-0-is c.in-Ok-Some.ensures) in
    let all = subst
    (λ (y : NewItemsOf). All (λ (a : Item). StandsWith y.on.d y.on.items (shove_of a) (shove_of fitting))
    c.as_slice.result.now) c.self.view_is (c.all_stand_with.ensures.0 c.if-not-all_stand_with.false) in
    one_moved y.on.d y.on.lat y.on.items y.new c.args.ids.now c.loop-id.id-index fitting c.loop-id.moved
    c.push.new.self c.loop-id-test.true c.loop-id.invariant moved
    (subst (λ (xs : List Item). All (λ (a : Item). StandsWith y.on.d y.on.items (shove_of a) (shove_of fitting)) xs)
    c.as_slice.ensures all) c.in_default-push.ensures.ok
