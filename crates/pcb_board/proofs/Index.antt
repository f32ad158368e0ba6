-- The index of a board that takes an offer.
use Rattle.std.proofs.Common.{◌≡◌, ◌≢◌, ◌⊎◌, inl, inr, ℕ, ◌+◌, ◌-◌, ◌<◌, ◌≤◌, ◌==◌, Bool, true, false}
use Rattle.std.proofs.Common.{true≢false, Some, refl, sym, ◌∙◌, ap, subst, List, [], ◌∷◌, ◌++◌}
use Rattle.std.proofs.Common.{length, get_or, arith, length-append}
use Rattle.std.specs.Prelude.{not, ◌||◌, slice_get, slice_index_or}
use Rattle.std.proofs.lemmas.Bool.{cases_lt}
use Rattle.std.proofs.lemmas.Option.{slice_get-get_or}
use Rattle.pcb_model.specs.declared.item.Item.{Item}
use Rattle.pcb_model.specs.Pairs.{Agrees}
use Rattle.board_offers.specs.declared.offer.Offer.{Offer}
use Rattle.board_offers.specs.Items.{names, is_on, without, gone, new_items, joined_items}
use Rattle.pcb_board.specs.Boards.{BoardOf, given, IsLast, Changes}
use Rattle.board_offers.specs.Troubles.{wanted}
use Rattle.pcb_board.specs.Answers.{IsHeard, IsClearOn, joined}
use Rattle.pcb_board.specs.Keeping.{IsBoard}
use Rattle.pcb_board.specs.inner.Renewing.{IsRenewed}
use Rattle.pcb_board.specs.Indexing.{AreIndexed}
use Rattle.board_offers.proofs.Lists.{in_later, in_from, found_at, stayed, passes, not_true, named_in}
use Rattle.board_offers.proofs.Lists.{in_named, on_item}
use Rattle.board_offers.proofs.Troubles.{or_right, is_on_in}
use Rattle.board_offers.proofs.New.{new_at, new_id}
use Rattle.pcb_board.proofs.Standing.{id_within}
use Rattle.pcb_board.proofs.Order.{kept_there}
use Rattle.pcb_board.proofs.Changing.{changes_last, stays_last}
use Rattle.pcb_board.proofs.Joining.{last_is, before_is, given_is}

-- ---- booleans
pub is_false : (a : Bool) → (a ≡ true → ⊥) → a ≡ false
is_false true n = absurd (n refl)
is_false false n = refl

both_ways : (a b : Bool) → (a ≡ true → b ≡ true) → (b ≡ true → a ≡ true) → a ≡ b
both_ways true b to back = sym (to refl)
both_ways false b to back = sym (is_false b (λ e. true≢false (sym (back e))))

pub bool_cases : (a : Bool) → (a ≡ true) ⊎ (a ≡ false)
bool_cases true = inl refl
bool_cases false = inr refl

-- ---- what is on
pub on_append : (x : ℕ) (xs ys : List Item) → is_on x (xs ++ ys) ≡ (is_on x xs || is_on x ys)
on_append x [] ys = refl
on_append x (a ∷ xs) ys = ap (λ (t : Bool). (a.id == x) || t) (on_append x xs ys)
    ∙ same (a.id == x) (is_on x xs) (is_on x ys)
  where
    same : (p q r : Bool) → (p || (q || r)) ≡ ((p || q) || r)
    same true q r = refl
    same false q r = refl

pub off_named : (ids : List ℕ) (x : ℕ) (xs : List Item) → names ids x ≡ true → is_on x (without ids xs) ≡ false
off_named ids x xs named = is_false (is_on x (without ids xs)) (λ e.
    let h = on_item (without ids xs) x e in
    let free : names ids h.item.id ≡ false =
    not_true (names ids h.item.id) (passes (λ (a : Item). not (names ids a.id)) xs h.item h.there) in
    true≢false (sym named ∙ sym (ap (names ids) h.id_is) ∙ free))

pub on_others : (ids : List ℕ) (x : ℕ) (xs : List Item) → names ids x ≡ false → is_on x (without ids xs) ≡ is_on x xs
on_others ids x xs free = both_ways (is_on x (without ids xs)) (is_on x xs)
    (λ e. let h = on_item (without ids xs) x e in
    is_on_in xs x h.item (stayed (λ (a : Item). not (names ids a.id)) xs h.item h.there) h.id_is)
    (λ e. let h = on_item xs x e in
    is_on_in (without ids xs) x h.item (kept_there (λ (a : Item). not (names ids a.id)) xs h.item h.there
    (ap not (ap (names ids) h.id_is ∙ free))) h.id_is)

pub off_left : (a b : Bool) → a ≡ false → (a || b) ≡ b
off_left true b e = absurd (true≢false e)
off_left false b e = refl

pub off_right : (a b : Bool) → b ≡ false → (a || b) ≡ a
off_right true b e = refl
off_right false b e = e

module _ (b : BoardOf) (o : Offer) (swap : (x y : Item) → Agrees b.design x y → Agrees b.design y x)
    (board : IsBoard b) (heard : IsHeard b o) (clear : (x : ℕ) → IsClearOn b o x) where
  abbrev come : List Item
  come = new_items b.design (given b) o

  abbrev after : List Item
  after = joined_items b.design (given b) b.items o

  id_of : (j : ℕ) (a : Item) → slice_get come j ≡ Some a → a.id ≡ length (given b) + j
  id_of j a at = new_id b.design (given b) (length b.history) o board.sound board.given_are heard.formed j a
      (new_at b.design (given b) o j a at)

  -- a new id isn't below those that were given
  old_not_new : (x : ℕ) → x < length (given b) → is_on x come ≡ false
  old_not_new x less = is_false (is_on x come) (λ e.
      let h = on_item come x e in
      let f = found_at come h.item h.there in
      let is : h.item.id ≡ length (given b) + f.place = id_of f.place h.item f.there in
      absurd (let same = h.id_is in omega (arith, less, is, same)))

  new_on : (x : ℕ) → length (given b) ≤ x → x < length (given b) + length come → is_on x come ≡ true
  new_on x past less =
      let j = x - length (given b) in
      let within : x - length (given b) < length come = omega (arith, past, less) in
      let a = get_or come (x - length (given b)) (get_any come within) in
      let at : slice_get come (x - length (given b)) ≡ Some
      (get_or come (x - length (given b)) (get_any come within)) =
      slice_get-get_or come (x - length (given b)) (get_any come within) within in
      is_on_in come x a (in_from come j a at)
      (id_of j a at ∙ (let e : length (given b) + (x - length (given b)) ≡ x = omega (arith, past) in e))
    where
      get_any : {n : ℕ} (xs : List Item) → n < length xs → Item
      get_any [] h = absurd (omega (arith, h))
      get_any (y ∷ ys) h = y

  new_off : (x : ℕ) → length (given b) ≤ x → is_on x b.items ≡ false
  new_off x past = is_false (is_on x b.items) (λ e.
      let h = on_item b.items x e in
      let less : h.item.id < length (given b) = id_within b board h.item h.there in
      absurd (let same = h.id_is in omega (arith, less, past, same)))

  was_on : (x : ℕ) → names (gone o) x ≡ true → is_on x b.items ≡ true
  was_on x named = (clear x).there (in_named (wanted o) x
      (in_later o.from x (o.to ∷ gone o) (in_later o.to x (gone o) (named_in (gone o) x named))))

  after_is : (x : ℕ) → is_on x after ≡ (is_on x (without (gone o) b.items) || is_on x come)
  after_is x = on_append x (without (gone o) b.items) come

  -- ---- the last change
  changes : (x : ℕ) → is_on x after ≢ is_on x b.items
      → IsLast (Changes (joined b o) x) (length (joined b o).history) (length b.history + 1)
  changes x = changes_last b (joined b o) after (length-append b.history _) (before_is b o swap board heard clear)
      (last_is b o swap board heard clear) board.replays x

  keeps : (x n : ℕ) → is_on x after ≡ is_on x b.items → IsLast (Changes b x) (length b.history) n
      → IsLast (Changes (joined b o) x) (length (joined b o).history) n
  keeps x n = stays_last b (joined b o) after (length-append b.history _) (before_is b o swap board heard clear)
      (last_is b o swap board heard clear) board.replays x n

  -- ---- the index
  abbrev Last : ℕ → ℕ → Type 0
  Last x n = IsLast (Changes (joined b o) x) (length (joined b o).history) n

  pub renewed : (items : List Item) (changed later : List ℕ) → AreIndexed b items changed
      → IsRenewed (gone o) (length items) (length b.history + 1) changed later (length items + length come)
      → AreIndexed (joined b o) (items ++ come) later
  renewed items changed later h r =
      let long : length items ≡ length (given b) = ap length h.items_are in
      record {
        items_are = ap (λ (xs : List Item). xs ++ come) h.items_are ∙ sym (given_is b o swap board heard clear);
        all = r.all ∙ sym (length-append items come);
        last = λ x d within.
            let less : x < length items + length come = omega (arith, within, length-append items come) in
            elim (cases_lt x (length items)) [
              | inl old ↦ elim (bool_cases (names (gone o) x)) [
                | inl named ↦
                    subst (Last x) (sym (r.named x d old named))
                    (changes x (λ e. true≢false (
                    sym (was_on x named) ∙ sym e ∙ after_is x
                    ∙ off_left (is_on x (without (gone o) b.items)) (is_on x come) (off_named (gone o) x b.items named)
                    ∙ old_not_new x (omega (arith, old, long)))))
                | inr free ↦
                    subst (Last x) (sym (r.others x d old free))
                    (keeps x (slice_index_or changed x d)
                    (after_is x ∙ off_right (is_on x (without (gone o) b.items)) (is_on x come)
                    (old_not_new x (omega (arith, old, long))) ∙ on_others (gone o) x b.items free)
                    (h.last x d old))
              ]
              | inr fresh ↦
                  subst (Last x) (sym (r.fresh x d fresh less))
                  (changes x (λ e. true≢false (
                  sym (or_right (is_on x (without (gone o) b.items)) (is_on x come)
                  (new_on x (omega (arith, fresh, long)) (omega (arith, less, long))))
                  ∙ sym (after_is x) ∙ e ∙ new_off x (omega (arith, fresh, long)))))
            ];
      }
