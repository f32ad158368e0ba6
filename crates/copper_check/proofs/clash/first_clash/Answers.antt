use Rattle.std.proofs.Common.{List, subst, sym}
use Rattle.std.specs.Prelude.{Contains}
use Rattle.std.proofs.lemmas.List.Elements.{All-contains}
use Rattle.pcb_model.specs.declared.item.Item.{Item}
use Rattle.pcb_model.specs.Sound.{IsItemOf}
use Rattle.copper_check.specs.inner.Searching.{AgreesBelow, IsReached}
use Rattle.copper_check.proofs.Clashing.{search_end, search_more, search_none}
use Rattle.copper_check.proofs.clash.first_clash.Goals as goal

pub loop-a-init : goal.loop-a-init
loop-a-init g c = search_none c.args.d.now c.args.items.now c.pairs_are_symmetric.ensures.agree

pub loop-a-preserved : goal.loop-a-preserved
loop-a-preserved g c =
    let d = c.args.d.now in
    let one = c.clash_of.result in
    search_more d c.args.items.now c.pairs_are_symmetric.ensures.agree c.loop-a.bound one c.lesser-bound.result
    c.loop-a.a-index c.a-item.result c.a-item.is c.loop-a.invariant
    (subst (λ (xs : List Item). IsReached d xs one) c.requires.same c.clash_of.ensures.reached)
    (subst (λ (xs : List Item). AgreesBelow d xs one c.a-item.result) c.requires.same c.clash_of.ensures.own)
    c.lesser-bound.ensures.is c.lesser-bound.ensures.below c.loop-a-test.true

pub clash_of-requires-clause-there : goal.clash_of-requires-clause-there
clash_of-requires-clause-there g c =
    subst (λ (xs : List Item). Contains xs c.a-item.result) (sym c.requires.same)
    (c.loop-a.a-index, c.loop-a-test.true, sym c.a-item.is)

pub clash_of-requires-clause-fits : goal.clash_of-requires-clause-fits
clash_of-requires-clause-fits g c =
    let serves = g.met.C.Copper.serving c.args.c.now c.args.d.now c.requires.serves in
    let there : Contains (g.C.Copper.items c.args.c.now) c.a-item.result =
    subst (λ (xs : List Item). Contains xs c.a-item.result) (sym c.requires.same)
    (c.loop-a.a-index, c.loop-a-test.true, sym c.a-item.is) in
    (All-contains (IsItemOf c.args.d.now) (g.C.Copper.items c.args.c.now) c.a-item.result serves.items_fit there).fits

pub returns : goal.returns
returns g c =
    search_end c.args.d.now c.args.items.now c.pairs_are_symmetric.ensures.agree c.loop-a.bound c.loop-a.a-index
    c.loop-a.invariant c.loop-a-test.false
