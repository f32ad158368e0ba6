use Rattle.std.proofs.Common.{refl, sym, subst, All}
use Rattle.std.proofs.lemmas.Bool.{false≢true}
use Rattle.pcb_model.specs.declared.item.Item.{Item}
use Rattle.pcb_model.specs.Bounds.{IsItemFit}
use Rattle.pcb_model.specs.Pairs.{Agrees}
use Rattle.shove.proofs.Touching.{unless}
use Rattle.board_offers.proofs.Lists.{at_place_of, front_more, front_all}
use Rattle.route_plan.specs.inner.NewItems.{NewItemsOf}
use Rattle.route_plan.proofs.fit.NewItems.all_agree_with.Goals as goal

pub agree-requires-clause-a_fits : goal.agree-requires-clause-a_fits
agree-requires-clause-a_fits g c =
    at_place_of IsItemFit c.self.inside.new.now c.self.invariant.1 c.loop-a.a-index c.a-item.result c.loop-a-test.true
    c.a-item.is

pub loop-a-preserved : goal.loop-a-preserved
loop-a-preserved g c =
    let s = c.self.inside in
    front_more (λ (a : Item). Agrees s.d.now a c.args.item.now) s.new.now c.loop-a.a-index c.a-item.result
    c.loop-a-test.true c.a-item.is c.loop-a.invariant (c.agree.ensures.0 c.if-not-agree.false)

pub returns : goal.returns
returns g c =
    let s = c.self.inside in
    let all : All (λ (a : Item). Agrees s.d.now a c.args.item.now) s.new.now =
    front_all (λ (a : Item). Agrees s.d.now a c.args.item.now) s.new.now c.loop-a.a-index c.loop-a-test.false
    c.loop-a.invariant in
    let there = subst (λ (y : NewItemsOf). All (λ (a : Item). Agrees y.on.d a c.args.item.now) y.new) c.self.view_is
    all in
    (λ t. there, λ h. refl)

pub returns-then-not-agree : goal.returns-then-not-agree
returns-then-not-agree g c =
    let s = c.self.inside in (
      λ t. absurd (false≢true t),
      λ all. let here = subst (λ (y : NewItemsOf). All (λ (a : Item). Agrees y.on.d a c.args.item.now) y.new)
          (sym c.self.view_is) all in
          absurd (unless c.agree.result _ c.agree.ensures c.if-not-agree.true
          (at_place_of (λ (a : Item). Agrees s.d.now a c.args.item.now) s.new.now here c.loop-a.a-index c.a-item.result
          c.loop-a-test.true c.a-item.is)),
    )
