use Rattle.std.proofs.Common.{◌≡◌, ◌⊎◌, inl, inr, true≢false, List, [], map, sym, ◌∙◌, subst}
use Rattle.board_offers.specs.declared.offer.Shoved.{Shoved}
use Rattle.board_offers.proofs.Once.{AreDistinct, id_of}
use Rattle.board_offers.proofs.ids.names_once.Goals as goal

pub returns-then-not-is_one_empty : goal.returns-then-not-is_one_empty
returns-then-not-is_one_empty c = (
  λ t. absurd (true≢false (sym t)),
  λ once.
      let kind : (c.as_slice-rip.result.now ≡ []) ⊎ (c.as_slice-shoves.result.now ≡ []) = elim once.one_kind [
        | inl rip ↦ inl (c.as_slice-rip.ensures ∙ rip)
        | inr shoves ↦ inr (c.as_slice-shoves.ensures ∙ shoves)
      ] in
      absurd (true≢false (sym (c.is_one_empty.ensures.1 kind) ∙ c.if-not-is_one_empty.true)),
)

pub returns-then-not-are_distinct : goal.returns-then-not-are_distinct
returns-then-not-are_distinct c = (
  λ t. absurd (true≢false (sym t)),
  λ once. absurd
      (true≢false
      (sym (c.are_distinct.ensures.1 (subst AreDistinct (sym c.as_slice-rip.ensures) once.rip_once))
      ∙ c.if-not-are_distinct.true)),
)

pub returns : goal.returns
returns c =
    let F : List Shoved → Type 0 = λ ss. AreDistinct (map id_of ss) in (
      λ t. record {
        one_kind = elim (c.is_one_empty.ensures.0 c.if-not-is_one_empty.false) [
          | inl rip ↦ inl (sym c.as_slice-rip.ensures ∙ rip)
          | inr shoves ↦ inr (sym c.as_slice-shoves.ensures ∙ shoves)
        ];
        rip_once = subst AreDistinct c.as_slice-rip.ensures (c.are_distinct.ensures.0 c.if-not-are_distinct.false);
        shove_once = subst F c.as_slice-shoves.ensures (c.are_shoved_once.ensures.0 t);
      },
      λ once. c.are_shoved_once.ensures.1 (subst F (sym c.as_slice-shoves.ensures) once.shove_once),
    )
