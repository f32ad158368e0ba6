use Rattle.std.proofs.Common.{arith, ◌≡◌, ◌+◌, List, [], ◌∷◌, ◌++◌, take, sym, ◌∙◌, ap, subst}
use Rattle.std.proofs.lemmas.List.{take_all, take_more}
use Rattle.pcb_model.specs.declared.item.Item.{Item}
use Rattle.pcb_model.specs.Bounds.{IsItemFit}
use Rattle.board_offers.specs.Troubles.{FailsLeast}
use Rattle.board_offers.specs.inner.Searching.{AgreesWithAll}
use Rattle.board_offers.proofs.Troubles.{with_all_more}
use Rattle.board_offers.proofs.trouble.least_clash.Goals as goal

pub least_clash_by-requires-clause-fits : goal.least_clash_by-requires-clause-fits
least_clash_by-requires-clause-fits g c =
    subst IsItemFit (sym c.n-item.is) (c.requires.fit c.loop-n.n-index c.n-item.result c.loop-n-test.true)

pub loop-n-preserved : goal.loop-n-preserved
loop-n-preserved g c =
    let d = c.args.d.now in
    let items = (g.C.Copper.items c.args.c.now) in
    let ids = c.args.ids.now in
    let new = c.args.new.now in
    let n = c.n-item.result in
    let front = take c.loop-n.n-index c.args.new.now in
    let more : take (c.loop-n.n-index + 1) c.args.new.now ≡ front ++ n ∷ [] =
    take_more new c.loop-n.n-index n c.loop-n-test.true ∙ ap (λ (x : Item). front ++ x ∷ []) (sym c.n-item.is) in
    let all = with_all_more d items ids front n c.loop-n.least c.least_clash_by.result c.loop-n.invariant
    c.least_clash_by.ensures in
    subst (λ (xs : List Item). FailsLeast (AgreesWithAll d items ids xs) c.earlier-least.result) (sym more)
    (subst (FailsLeast (AgreesWithAll d items ids (front ++ n ∷ []))) (sym c.earlier-least.ensures) all)

pub returns : goal.returns
returns g c =
    subst (λ (xs : List Item).
    FailsLeast (AgreesWithAll c.args.d.now (g.C.Copper.items c.args.c.now) c.args.ids.now xs) c.loop-n.least)
    (take_all c.loop-n.n-index c.args.new.now c.loop-n-test.false) c.loop-n.invariant

pub loop-n-init : goal.loop-n-init
loop-n-init g c = λ x a there is on k d less. absurd (omega (arith, less))
