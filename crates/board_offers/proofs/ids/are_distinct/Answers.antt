use Rattle.std.proofs.Common.{get_or, sym, ◌∙◌, subst}
use Rattle.std.proofs.lemmas.List.{take_all, get_or_default}
use Rattle.board_offers.proofs.Once.{AreDistinct, distinct_more, not_distinct}
use Rattle.board_offers.proofs.ids.are_distinct.Goals as goal

pub returns-then-is_named : goal.returns-then-is_named
returns-then-is_named c =
    let ids = c.args.ids.now in
    let i = c.loop-i.i in
    let x = get_or ids i 0 in (
      λ t. cc,
      λ apart. absurd
          (not_distinct ids i x c.loop-i-test.true (get_or_default ids i 0 x c.loop-i-test.true)
          (sym c.is_named.ensures ∙ c.if-is_named.true) apart),
    )

pub loop-i-preserved : goal.loop-i-preserved
loop-i-preserved c =
    let ids = c.args.ids.now in
    let i = c.loop-i.i in
    let x = get_or ids i 0 in
    distinct_more ids i x c.loop-i-test.true (get_or_default ids i 0 x c.loop-i-test.true)
    (sym c.is_named.ensures ∙ c.if-is_named.false) c.loop-i.invariant

pub returns : goal.returns
returns c =
    (λ t. subst AreDistinct (take_all c.loop-i.i c.args.ids.now c.loop-i-test.false) c.loop-i.invariant, λ apart. cc)
