use Rattle.std.proofs.Common.{ℕ, List, length, ◌==◌, inl, inr, ⊎_elim, sym, ap, ◌∙◌, true≢false}
use Rattle.board_offers.specs.declared.offer.Shoved.{Shoved}
use Rattle.board_offers.proofs.Tests.{no_length}
use Rattle.board_offers.proofs.ids.is_one_empty.Goals as goal

pub returns-then-is_empty : goal.returns-then-is_empty
returns-then-is_empty c =
    (λ t. inl (no_length c.args.rip.now (sym c.is_empty.ensures ∙ t)), λ h. c.if-is_empty.true)

pub returns-else-is_empty : goal.returns-else-is_empty
returns-else-is_empty c = (
  λ t. inr (no_length c.args.shoves.now (sym c.is_empty-else-is_empty.ensures ∙ t)),
  λ h. ⊎_elim
      (λ e. absurd
      (true≢false (sym (c.is_empty.ensures ∙ ap (λ (xs : List ℕ). length xs == 0) e) ∙ c.if-is_empty.false)))
      (λ e. c.is_empty-else-is_empty.ensures ∙ ap (λ (xs : List Shoved). length xs == 0) e) h,
)
