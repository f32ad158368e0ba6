use Rattle.std.proofs.Common.{◌≡◌, ℕ, ◌+◌, Option, Some, None, List, [], ◌∷◌, ◌++◌, length, take, sym, ◌∙◌, ap, subst}
use Rattle.std.proofs.Common.{All, arith}
use Rattle.std.specs.Prelude.{MatchOption}
use Rattle.std.proofs.lemmas.List.{take_all, take_more, length-take-le}
use Rattle.std.proofs.lemmas.List.Elements.{All-nil}
use Rattle.pcb_model.specs.declared.item.Item.{Item}
use Rattle.board_offers.specs.declared.offer.Shoved.{Shoved}
use Rattle.board_offers.specs.Items.{item_at, replaced_from, reshaped}
use Rattle.board_offers.specs.inner.Adding.{MayShove}
use Rattle.board_offers.proofs.Lists.{front_more}
use Rattle.board_offers.proofs.Making.{replaced_more}
use Rattle.board_offers.proofs.shoves.replacements.Goals as goal

pub loop-s-preserved : goal.loop-s-preserved
loop-s-preserved c =
    let d = c.args.d.now in
    let given = c.args.given.now in
    let first = c.args.first in
    let shoves = c.args.shoves.now in
    let i = c.loop-s.s-index in
    let s = c.s-item.result in
    let P : Shoved → Type 0 = MayShove d given c.args.net c.args.added.now in
    let front = take i shoves in
    let more : take (i + 1) shoves ≡ front ++ s ∷ [] = take_more shoves i s c.loop-s-test.true
    ∙ ap (λ (x : Shoved). front ++ x ∷ []) (sym c.s-item.is) in
    let long : length front ≡ i = length-take-le i shoves (let l = c.loop-s-test.true in omega (arith, l)) in
    let numbered : c.loop-s.id ≡ first + length front = let e = c.loop-s.invariant.counted in omega (arith, e, long) in
    let r = subst
    (λ (o : Option Item).
    MatchOption o (¬ (P s)) (λ (a : Item). P s × (a ≡ reshaped d c.loop-s.id s.chain (item_at given s.id))))
    {x = _} {y = Some c.in-Some.item} c.in-Some.is c.in_ok-item.ensures in
    let made : c.in-Some.item ≡ reshaped d (first + length front) s.chain (item_at given s.id) =
    r.1 ∙ ap (λ (n : ℕ). reshaped d n s.chain (item_at given s.id)) numbered in
    record {
      items = c.in_ok-push.ensures.items ∙ ap (λ (xs : List Item). xs ++ c.in-Some.item ∷ []) c.loop-s.invariant.items
          ∙ ap (λ (x : Item). replaced_from d given first front ++ x ∷ []) made
          ∙ sym (replaced_more d given first front s) ∙ sym (ap (replaced_from d given first) more);
      counted = let e = c.loop-s.invariant.counted in omega (arith, e);
      each = front_more P shoves i s c.loop-s-test.true c.s-item.is c.loop-s.invariant.each r.0;
    }

pub loop-s-init : goal.loop-s-init
loop-s-init c = record { items = c.new-items.ensures.items; counted = omega arith; each = All-nil _ }

pub overflow_add-id : goal.overflow_add-id
overflow_add-id c =
    let room = c.requires.room in
    let e = c.loop-s.invariant.counted in
    let l = c.loop-s-test.true in
    omega (arith, room, e, l)

pub returns-in_default : goal.returns-in_default
returns-in_default c = λ all.
    let s = c.s-item.result in
    let P : Shoved → Type 0 = MayShove c.args.d.now c.args.given.now c.args.net c.args.added.now in
    subst
    (λ (o : Option Item).
    MatchOption o (¬ (P s))
    (λ (a : Item). P s × (a ≡ reshaped c.args.d.now c.loop-s.id s.chain (item_at c.args.given.now s.id))))
    {x = _} {y = None} c.in_default.is c.in_ok-item.ensures
    (subst P (sym c.s-item.is) (all c.loop-s.s-index s c.loop-s-test.true))

pub returns : goal.returns
returns c =
    let all = take_all c.loop-s.s-index c.args.shoves.now c.loop-s-test.false in (
      subst (All (MayShove c.args.d.now c.args.given.now c.args.net c.args.added.now)) all c.loop-s.invariant.each,
      c.loop-s.invariant.items ∙ ap (replaced_from c.args.d.now c.args.given.now c.args.first) all,
    )
