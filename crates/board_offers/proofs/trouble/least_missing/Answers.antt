use Rattle.std.proofs.Common.{ℕ, List, [], ◌∷◌, ◌++◌, get_or, take, sym, subst}
use Rattle.std.proofs.lemmas.List.{take_all, take_more}
use Rattle.board_offers.specs.Troubles.{FailsLeast}
use Rattle.board_offers.specs.inner.Searching.{IsNamedThere}
use Rattle.board_offers.proofs.Troubles.{named_there_more}
use Rattle.board_offers.proofs.trouble.least_missing.Goals as goal

pub loop-id-preserved : goal.loop-id-preserved
loop-id-preserved g c =
    let items = (g.C.Copper.items c.args.c.now) in
    let ids = c.args.ids.now in
    let i = c.loop-id.id-index in
    let id = get_or ids i 0 in
    let all = named_there_more items (take i ids) id c.loop-id.least c.if_missing.result c.loop-id.invariant
    c.if_missing.ensures in
    subst (λ (xs : List ℕ). FailsLeast (IsNamedThere items xs) c.earlier-least.result)
    (sym (take_more ids i 0 c.loop-id-test.true))
    (subst (FailsLeast (IsNamedThere items (take i ids ++ id ∷ []))) (sym c.earlier-least.ensures) all)

pub returns : goal.returns
returns g c =
    subst (λ (xs : List ℕ). FailsLeast (IsNamedThere (g.C.Copper.items c.args.c.now) xs) c.loop-id.least)
    (take_all c.loop-id.id-index c.args.ids.now c.loop-id-test.false) c.loop-id.invariant
