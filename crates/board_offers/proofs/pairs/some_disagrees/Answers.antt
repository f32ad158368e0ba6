use Rattle.std.proofs.Common.{IsTrue, rules, tests}
use Rattle.pcb_model.specs.declared.item.Item.{Item}
use Rattle.pcb_model.specs.Bounds.{IsItemFit}
use Rattle.pcb_model.specs.Pairs.{Agrees}
use Rattle.board_offers.proofs.Lists.{at_place_of, front_more, front_all, any_at}
use Rattle.board_offers.proofs.pairs.some_disagrees.Goals as goal

pub agree-requires-clause-a_fits : goal.agree-requires-clause-a_fits
agree-requires-clause-a_fits c =
    at_place_of IsItemFit c.args.items.now c.requires.fit c.loop-a.a-index c.a-item.result c.loop-a-test.true
    c.a-item.is

pub loop-a-preserved : goal.loop-a-preserved
loop-a-preserved c =
    let b = c.args.b.now in
    let t : IsTrue c.agree.result = search (rules, tests) in
    front_more (λ (a : Item). Agrees c.args.d.now a b) c.args.items.now c.loop-a.a-index c.a-item.result
    c.loop-a-test.true c.a-item.is c.loop-a.invariant (c.agree.ensures.0 t)

pub returns-then-not-agree-clause-yes : goal.returns-then-not-agree-clause-yes
returns-then-not-agree-clause-yes c =
    any_at (λ (a : Item). Agrees c.args.d.now a c.args.b.now → ⊥) c.args.items.now c.loop-a.a-index c.a-item.result
    c.loop-a-test.true c.a-item.is (λ h. let t = c.agree.ensures.1 h in search (rules, tests))

pub returns-clause-no : goal.returns-clause-no
returns-clause-no c =
    front_all (λ (a : Item). Agrees c.args.d.now a c.args.b.now) c.args.items.now c.loop-a.a-index c.loop-a-test.false
    c.loop-a.invariant
