use Rattle.std.proofs.Common.{◌≡◌, ◌+◌, List, [], ◌∷◌, ◌++◌, take, sym, ◌∙◌, ap, subst}
use Rattle.std.proofs.lemmas.List.{take_all, take_more}
use Rattle.board_offers.specs.declared.offer.Shoved.{Shoved}
use Rattle.board_offers.specs.Troubles.{FailsLeast}
use Rattle.board_offers.specs.inner.Searching.{StaysWithAll}
use Rattle.board_offers.proofs.Parting.{with_more}
use Rattle.board_offers.proofs.parted.least_parted.Goals as goal

pub loop-s-preserved : goal.loop-s-preserved
loop-s-preserved g c =
    let given = c.args.given.now in
    let ss = c.args.shoves.now in
    let rs = c.args.replaced.now in
    let items = g.C.Copper.items c.args.c.now in
    let s = c.s-item.result in
    let front = take c.loop-s.s-index ss in
    let more : take (c.loop-s.s-index + 1) ss ≡ front ++ s ∷ [] =
    take_more ss c.loop-s.s-index s c.loop-s-test.true ∙ ap (λ (x : Shoved). front ++ x ∷ []) (sym c.s-item.is) in
    let all = with_more given ss rs items front s c.loop-s.least c.least_parted_from.result c.loop-s.invariant
    c.least_parted_from.ensures in
    subst (λ (ts : List Shoved). FailsLeast (StaysWithAll given ss rs items ts) c.earlier-least.result) (sym more)
    (subst (FailsLeast (StaysWithAll given ss rs items (front ++ s ∷ []))) (sym c.earlier-least.ensures) all)

pub returns : goal.returns
returns g c =
    subst (λ (ss : List Shoved).
    FailsLeast
    (StaysWithAll c.args.given.now c.args.shoves.now c.args.replaced.now (g.C.Copper.items c.args.c.now) ss)
    c.loop-s.least)
    (take_all c.loop-s.s-index c.args.shoves.now c.loop-s-test.false) c.loop-s.invariant
