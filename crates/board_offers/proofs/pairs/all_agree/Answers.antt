use Rattle.std.proofs.Common.{take, refl, subst}
use Rattle.std.specs.List.{AllPairs}
use Rattle.std.proofs.lemmas.List.{take_all}
use Rattle.std.proofs.lemmas.List.Elements.{All-take}
use Rattle.pcb_model.specs.declared.item.Item.{Item}
use Rattle.pcb_model.specs.Bounds.{IsItemFit}
use Rattle.pcb_model.specs.Pairs.{Agrees}
use Rattle.board_offers.proofs.Lists.{at_place_of, pairs_more, pairs_before, none_of_all}
use Rattle.board_offers.proofs.pairs.all_agree.Goals as goal

pub some_disagrees-requires-clause-b_fits : goal.some_disagrees-requires-clause-b_fits
some_disagrees-requires-clause-b_fits c =
    at_place_of IsItemFit c.args.items.now c.requires.fit c.loop-i.i c.index-items-i.result c.loop-i-test.true
    c.index-items-i.is

pub returns-then-some_disagrees : goal.returns-then-some_disagrees
returns-then-some_disagrees c =
    let R = Agrees c.args.d.now in
    let b = c.index-items-i.result in (
      λ t. cc,
      λ pairs. absurd
          (none_of_all (λ (a : Item). R a b) (λ (a : Item). R a b → ⊥) (λ a p q. q p) (take c.loop-i.i c.args.items.now)
          (pairs_before R c.args.items.now c.loop-i.i b c.loop-i-test.true c.index-items-i.is pairs)
          c.if-some_disagrees.ensures.yes),
    )

pub loop-i-preserved : goal.loop-i-preserved
loop-i-preserved c =
    pairs_more (Agrees c.args.d.now) c.args.items.now c.loop-i.i c.index-items-i.result c.loop-i-test.true
    c.index-items-i.is
    c.loop-i.invariant c.if-some_disagrees.ensures.no

pub returns : goal.returns
returns c = (
  λ t. subst (AllPairs (Agrees c.args.d.now)) (take_all c.loop-i.i c.args.items.now c.loop-i-test.false)
      c.loop-i.invariant,
  λ pairs. refl,
)

pub some_disagrees-requires-clause-fit : goal.some_disagrees-requires-clause-fit
some_disagrees-requires-clause-fit c = All-take IsItemFit c.loop-i.i c.args.items.now c.requires.fit
