use Rattle.std.proofs.Common.{ℕ, ◌<◌, length, get_or, sym, ◌∙◌, ap, arith}
use Rattle.std.proofs.lemmas.List.{get_or_default, get_or_past}
use Rattle.board_offers.proofs.Parting.{place_found, place_missing, place_is, no_place, none_before}
use Rattle.board_offers.proofs.parted.lying_after.Goals as goal

pub loop-i-preserved : goal.loop-i-preserved
loop-i-preserved c =
    none_before c.args.shoves.now c.args.a.now.id c.loop-i.i c.index-shoves-i.result c.loop-i-test.true
    c.loop-i.invariant c.if-shoves-i.false

pub returns-then-shoves-i : goal.returns-then-shoves-i
returns-then-shoves-i c =
    let rs = c.args.replaced.now in
    let a = c.args.a.now in
    let i = c.loop-i.i in
    let r = c.index-replaced-i.result in
    let place = place_is c.args.shoves.now a.id i c.index-shoves-i.result c.loop-i-test.true c.loop-i.invariant
    c.if-shoves-i.true in
    let found = place_found c.args.shoves.now a.id i (sym place) in
    let within : i < length rs = let e = c.requires in omega (arith, c.loop-i-test.true, e) in
    c.index-replaced-i.is ∙ get_or_default rs i r a within ∙ sym (ap (λ (n : ℕ). get_or rs n a) found.1)

pub returns : goal.returns
returns c =
    let rs = c.args.replaced.now in
    let a = c.args.a.now in
    let none = no_place c.args.shoves.now a.id c.loop-i.i c.loop-i-test.false c.loop-i.auto.i-end c.loop-i.invariant in
    let past = place_missing c.args.shoves.now a.id (sym none) in
    sym (get_or_past rs _ a (let e = c.requires in omega (arith, past, e)))
