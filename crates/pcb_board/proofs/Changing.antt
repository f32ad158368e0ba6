-- The last entry that placed or removed an id, after one more entry.
use Rattle.std.proofs.Common.{◌≡◌, ◌≢◌, inl, inr, ℕ, ◌+◌, ◌<◌, ◌≤◌, sym, ◌∙◌, ap, List, length}
use Rattle.std.proofs.Common.{arith}
use Rattle.std.proofs.lemmas.Bool.{cases_lt}
use Rattle.pcb_model.specs.declared.item.Item.{Item}
use Rattle.board_offers.specs.Items.{is_on}
use Rattle.pcb_board.specs.Boards.{BoardOf, replayed, IsLast, Changes}

-- c has one entry more than b, and after it these items
module _ (b c : BoardOf) (after : List Item) (long : length c.history ≡ length b.history + 1)
    (before_is : (n : ℕ) → n ≤ length b.history → replayed c n ≡ replayed b n)
    (last_is : (n : ℕ) → n ≡ length b.history + 1 → replayed c n ≡ after)
    (replays : replayed b (length b.history) ≡ b.items) (x : ℕ) where
  same_now : is_on x (replayed b (length b.history)) ≡ is_on x b.items
  same_now = ap (is_on x) replays

  pub changes_last : is_on x after ≢ is_on x b.items → IsLast (Changes c x) (length c.history) (length b.history + 1)
  changes_last differ = record {
    within = omega (arith, long);
    holds = λ k e.
        let here : k ≡ length b.history = omega (arith, e) in
        record {
          change = λ same. differ (
              sym (ap (is_on x) (last_is (k + 1) (omega (arith, here))))
              ∙ same
              ∙ ap (is_on x) (before_is k (omega (arith, here)))
              ∙ ap (λ (n : ℕ). is_on x (replayed b n)) here
              ∙ same_now);
        };
    none_later = λ k le less h. absurd (omega (arith, le, less, long));
  }

  as_before : (k : ℕ) → k < length b.history → Changes b x k → Changes c x k
  as_before k less h = record {
    change = λ e. h.change (
        sym (ap (is_on x) (before_is (k + 1) (omega (arith, less)))) ∙ e
        ∙ ap (is_on x) (before_is k (omega (arith, less))));
  }

  as_it_was : (k : ℕ) → k < length b.history → Changes c x k → Changes b x k
  as_it_was k less h = record {
    change = λ e. h.change (
        ap (is_on x) (before_is (k + 1) (omega (arith, less))) ∙ e
        ∙ sym (ap (is_on x) (before_is k (omega (arith, less)))));
  }

  pub stays_last : (n : ℕ) → is_on x after ≡ is_on x b.items → IsLast (Changes b x) (length b.history) n
      → IsLast (Changes c x) (length c.history) n
  stays_last n same last = record {
    within = let w = last.within in omega (arith, long, w);
    holds = λ k e. as_before k (let w = last.within in omega (arith, e, w)) (last.holds k e);
    none_later = λ k le less h. elim (cases_lt k (length b.history)) [
      | inl early ↦ last.none_later k le early (as_it_was k early h)
      | inr late ↦
          let here : k ≡ length b.history = omega (arith, late, less, long) in
          h.change (
          ap (is_on x) (last_is (k + 1) (omega (arith, here)))
          ∙ same ∙ sym same_now ∙ sym (ap (λ (m : ℕ). is_on x (replayed b m)) here)
          ∙ sym (ap (is_on x) (before_is k (omega (arith, here)))))
    ];
  }
