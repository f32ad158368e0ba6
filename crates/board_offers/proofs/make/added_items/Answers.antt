use Rattle.std.proofs.Common.{◌≡◌, ℕ, ◌+◌, Some, false, List, [], ◌∷◌, ◌++◌, length, take, sym, ◌∙◌, ap, subst, arith}
use Rattle.std.proofs.lemmas.List.{take_all, take_more, length-take-le}
use Rattle.pcb_model.specs.declared.item.Metal.{Metal}
use Rattle.pcb_model.specs.declared.item.Item.{Item}
use Rattle.pcb_model.specs.Bounds.{IsMetalFit}
use Rattle.pcb_model.specs.Pieces.{item_of}
use Rattle.board_offers.specs.Items.{added_from}
use Rattle.board_offers.proofs.Making.{added_more}
use Rattle.board_offers.proofs.make.added_items.Goals as goal

pub loop-m-preserved : goal.loop-m-preserved
loop-m-preserved c =
    let d = c.args.d.now in
    let net = c.args.net in
    let first = c.args.first in
    let add = c.args.add.now in
    let i = c.loop-m.m-index in
    let m = c.m-item.result in
    let front = take i add in
    let more : take (i + 1) add ≡ front ++ m ∷ [] = take_more add i m c.loop-m-test.true
    ∙ ap (λ (x : Metal). front ++ x ∷ []) (sym c.m-item.is) in
    let long : length front ≡ i = length-take-le i add (let l = c.loop-m-test.true in omega (arith, l)) in
    let numbered : c.loop-m.id ≡ first + length front = let e = c.loop-m.invariant.counted in omega (arith, e, long) in
    let made : c.in_ok-item.item ≡ item_of d (first + length front) (Some net) false m =
    c.in_ok-item.ensures ∙ ap (λ (x : Metal). item_of d c.loop-m.id (Some net) false x) c.in_ok-metal.ensures
    ∙ ap (λ (n : ℕ). item_of d n (Some net) false m) numbered in
    record {
      items =
          c.in_ok-push.ensures.items ∙ ap (λ (xs : List Item). xs ++ c.in_ok-item.item ∷ []) c.loop-m.invariant.items
          ∙ ap (λ (x : Item). added_from d net first front ++ x ∷ []) made ∙ sym (added_more d net first front m)
          ∙ sym (ap (added_from d net first) more);
      counted = let e = c.loop-m.invariant.counted in omega (arith, e);
    }

pub loop-m-init : goal.loop-m-init
loop-m-init c = record { items = c.new-items.ensures.items; counted = omega arith }

pub make_item-requires-clause-place : goal.make_item-requires-clause-place
make_item-requires-clause-place c =
    subst IsMetalFit (sym (c.in_ok-metal.ensures ∙ c.m-item.is))
    (c.requires.fit c.loop-m.m-index c.m-item.result c.loop-m-test.true)

pub overflow_add-id : goal.overflow_add-id
overflow_add-id c =
    let room = c.requires.room in
    let e = c.loop-m.invariant.counted in
    let l = c.loop-m-test.true in
    omega (arith, room, e, l)

pub returns : goal.returns
returns c =
    let all = take_all c.loop-m.m-index c.args.add.now c.loop-m-test.false in
    c.loop-m.invariant.items ∙ ap (added_from c.args.d.now c.args.net c.args.first) all
