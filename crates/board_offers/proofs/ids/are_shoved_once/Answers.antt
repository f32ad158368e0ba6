use Rattle.std.proofs.Common.{◌≡◌, ◌+◌, ◌<◌, ◌==◌, List, ℕ, Bool, true, false, get_or, length, map, take, sym, ◌∙◌, ap}
use Rattle.std.proofs.Common.{subst, arith}
use Rattle.std.proofs.lemmas.List.{take_all, take-map, length-map, get_or_default}
use Rattle.std.proofs.Math.ListN.{get_or-map}
use Rattle.std.specs.List.{list_any}
use Rattle.board_offers.specs.declared.offer.Shoved.{Shoved}
use Rattle.board_offers.specs.Items.{names}
use Rattle.board_offers.proofs.Once.{AreDistinct, distinct_more, not_distinct, id_of, shoved_named}
use Rattle.board_offers.proofs.ids.are_shoved_once.Goals as goal

here : (ss : List Shoved) (i : ℕ) (s : Shoved) → i < length ss → s ≡ get_or ss i s → s.id ≡ get_or (map id_of ss) i s.id
here ss i s within is = ap id_of is ∙ sym (get_or-map id_of ss i s)

named : (ss : List Shoved) (i x : ℕ) (b : Bool) → list_any (λ (s : Shoved). s.id == x) (take i ss) ≡ b
    → names (take i (map id_of ss)) x ≡ b
named ss i x b e = ap (λ (ids : List ℕ). names ids x) (take-map id_of i ss) ∙ sym (shoved_named (take i ss) x) ∙ e

pub returns-then-is_shoved : goal.returns-then-is_shoved
returns-then-is_shoved c =
    let ss = c.args.shoves.now in
    let i = c.loop-i.i in
    let s = get_or ss i c.index-shoves-i.result in
    let is : s ≡ get_or ss i s = get_or_default ss i c.index-shoves-i.result s c.loop-i-test.true in
    let within : i < length (map id_of ss) = let e = length-map ss id_of in let l =
    c.loop-i-test.true in omega (arith, e, l) in (
      λ t. cc,
      λ apart. absurd
          (not_distinct (map id_of ss) i s.id within (here ss i s c.loop-i-test.true is)
          (named ss i s.id true (sym c.is_shoved.ensures ∙ c.if-is_shoved.true)) apart),
    )

pub loop-i-preserved : goal.loop-i-preserved
loop-i-preserved c =
    let ss = c.args.shoves.now in
    let i = c.loop-i.i in
    let s = get_or ss i c.index-shoves-i.result in
    let is : s ≡ get_or ss i s = get_or_default ss i c.index-shoves-i.result s c.loop-i-test.true in
    let within : i < length (map id_of ss) = let e = length-map ss id_of in let l =
    c.loop-i-test.true in omega (arith, e, l) in
    subst AreDistinct (take-map id_of (i + 1) ss)
    (distinct_more (map id_of ss) i s.id within (here ss i s c.loop-i-test.true is)
    (named ss i s.id false (sym c.is_shoved.ensures ∙ c.if-is_shoved.false))
    (subst AreDistinct (sym (take-map id_of i ss)) c.loop-i.invariant))

pub returns : goal.returns
returns c = (
  λ t. subst (λ (ss : List Shoved). AreDistinct (map id_of ss))
      (take_all c.loop-i.i c.args.shoves.now c.loop-i-test.false) c.loop-i.invariant,
  λ apart. cc,
)
