-- The entry that placed or removed an id is the last that changed whether it is there.
use Rattle.std.proofs.Common.{◌≡◌, ◌≢◌, ℕ, ◌+◌, ◌-◌, ◌≤◌, zero, suc, Bool, true, false, true≢false}
use Rattle.std.proofs.Common.{refl, sym, ◌∙◌, ap, subst, length, arith}
use Rattle.board_offers.specs.Items.{is_on}
use Rattle.pcb_board.specs.Boards.{BoardOf, replayed, IsLast, IsCommitOf, Changes}

same_bool : (a b : Bool) → ¬ (a ≢ b) → a ≡ b
same_bool true true n = refl
same_bool true false n = absurd (n true≢false)
same_bool false true n = absurd (n (λ e. true≢false (sym e)))
same_bool false false n = refl

not_true : (a : Bool) → true ≢ a → a ≡ false
not_true true n = absurd (n refl)
not_true false n = refl

not_false : (a : Bool) → false ≢ a → a ≡ true
not_false true n = refl
not_false false n = absurd (n refl)

module _ (b : BoardOf) (x n : ℕ) (replays : replayed b (length b.history) ≡ b.items)
    (last : IsLast (Changes b x) (length b.history) n) where
  -- from the last change on nothing changes
  stays : (j m : ℕ) → n ≤ m → m + j ≡ length b.history → is_on x (replayed b m) ≡ is_on x b.items
  stays zero m le at = ap (λ (k : ℕ). is_on x (replayed b k)) (let e : m ≡ length b.history = omega (arith, at) in e)
      ∙ ap (is_on x) replays
  stays (suc j) m le at =
      same_bool (is_on x (replayed b m)) (is_on x (replayed b (m + 1)))
      (λ differ. last.none_later m le (omega (arith, at)) (record { change = λ e. differ (sym e) }))
      ∙ stays j (m + 1) (omega (arith, le)) (omega (arith, at))

  as_now : (m : ℕ) → n ≤ m → m ≤ length b.history → is_on x (replayed b m) ≡ is_on x b.items
  as_now m le in_range = stays (length b.history - m) m le (omega (arith, in_range))

  pub commit_is : IsCommitOf b x n
  commit_is = record {
    removed = λ off. record {
      within = last.within;
      holds = λ k e.
          let after : is_on x (replayed b (k + 1)) ≡ false =
          as_now (k + 1) (omega (arith, e)) (omega (arith, e, last.within)) ∙ off in
          record {
            before = not_false (is_on x (replayed b k))
                (subst (λ (t : Bool). t ≢ is_on x (replayed b k)) after (last.holds k e).change);
            after = after;
          };
      none_later = λ k le less h. last.none_later k le less
          (record { change = λ e. true≢false (sym h.before ∙ sym e ∙ h.after) });
    };
    placed = λ on. record {
      within = last.within;
      holds = λ k e.
          let after : is_on x (replayed b (k + 1)) ≡ true =
          as_now (k + 1) (omega (arith, e)) (omega (arith, e, last.within)) ∙ on in
          record {
            before = not_true (is_on x (replayed b k))
                (subst (λ (t : Bool). t ≢ is_on x (replayed b k)) after (last.holds k e).change);
            after = after;
          };
      none_later = λ k le less h. last.none_later k le less
          (record { change = λ e. true≢false (sym h.after ∙ e ∙ h.before) });
    };
  }
