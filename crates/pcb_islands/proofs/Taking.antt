-- What taking in ids leaves, id by id.
use Rattle.std.proofs.Common.{◌≡◌, ℕ, ◌+◌, ◌<◌, ◌≤◌, Bool, true, false, not, cond, List, [], ◌∷◌, ◌++◌, length, get_or}
use Rattle.std.proofs.Common.{Some, sym, ◌∙◌, ap, refl, subst, inl, inr, true≢false, arith}
use Rattle.std.specs.Prelude.{Contains, All, count_by}
use Prim.Native.Nat.{zero, suc}
use Rattle.std.proofs.lemmas.Cmp.{nat_eq_equiv}
use Rattle.std.proofs.lemmas.Map.Views.{list_any-from_Contains, Contains-from_any, exact_unsigned_eq}
use Rattle.std.proofs.lemmas.List.{length_push}
use Rattle.std.proofs.lemmas.List.Sums.{sum_by-cons}
use Rattle.std.proofs.lemmas.List.Elements.{All-nil, All-push, All-pop, All-head, All-weaker}
use Rattle.std.proofs.lemmas.List.Elements.{Contains-append_left, Contains-push, Contains-push_cases}
use Rattle.pcb_model.specs.declared.item.Item.{Item}
use Rattle.pcb_islands.specs.inner.Numbers.{IsWith}
use Rattle.pcb_islands.specs.inner.Flooding.{is_reached, IsIdOf, IsTakenIn}

-- ---- counts
one_or_none : (a b : Bool) → (a ≡ true → b ≡ true) → cond a 1 0 ≤ cond b 1 0
one_or_none true true h = omega arith
one_or_none true false h = absurd (true≢false (sym (h refl)))
one_or_none false b h = omega arith

counted : (m n : ℕ) (a b : Bool) → a ≡ b → cond a n m ≡ cond b n m
counted m n a b e = ap (λ (c : Bool). cond c n m) e

counts_on : {X : Type 0} (p : X → Bool) (x : X) (xs : List X) → count_by p (x ∷ xs) ≡ cond (p x) 1 0 + count_by p xs
counts_on p x xs = sum_by-cons (λ y. cond (p y) 1 0) x xs

-- what passes a stricter test is no more
fewer : {X : Type 0} (p q : X → Bool) (xs : List X) → ((x : X) → p x ≡ true → q x ≡ true)
    → count_by p xs ≤ count_by q xs
fewer p q [] h = omega arith
fewer p q (x ∷ xs) h = omega (arith, counts_on p x xs, counts_on q x xs, one_or_none (p x) (q x) (h x), fewer p q xs h)

-- and less, where an element passes only the other
fewer_by : {X : Type 0} (p q : X → Bool) (xs : List X) (k : ℕ) (d : X) → ((x : X) → p x ≡ true → q x ≡ true)
    → k < length xs → p (get_or xs k d) ≡ false → q (get_or xs k d) ≡ true → count_by p xs + 1 ≤ count_by q xs
fewer_by p q [] k d h within fails passes = absurd (omega arith)
fewer_by p q (x ∷ xs) zero d h within fails passes =
    omega (
      arith,
      counts_on p x xs,
      counts_on q x xs,
      counted 0 1 (p x) false fails,
      counted 0 1 (q x) true passes,
      fewer p q xs h,
    )
fewer_by p q (x ∷ xs) (suc k) d h within fails passes =
    omega (
      arith,
      counts_on p x xs,
      counts_on q x xs,
      one_or_none (p x) (q x) (h x),
      fewer_by p q xs k d h (omega arith) fails passes,
    )

-- ---- reached
reached_is : (reached : List ℕ) (b : Item) → Contains reached b.id → is_reached reached b ≡ true
reached_is reached b h = list_any-from_Contains nat_eq_equiv b.id reached h

is_reached_is : (reached : List ℕ) (b : Item) → is_reached reached b ≡ true → Contains reached b.id
is_reached_is reached b h = Contains-from_any exact_unsigned_eq b.id reached h

unreached : (a b : Bool) → (a ≡ true → b ≡ true) → not b ≡ true → not a ≡ true
unreached true b h n = absurd (true≢false (sym n ∙ ap not (h refl)))
unreached false b h n = refl

-- what wasn't reached later wasn't before
earlier : (old new : List ℕ) → ((q : ℕ) → Contains old q → Contains new q) → (b : Item) → not (is_reached new b) ≡ true
    → not (is_reached old b) ≡ true
earlier old new kept b n = unreached _ _ (λ r. reached_is new b (kept b.id (is_reached_is old b r))) n

none_missing : (a : Bool) → ¬ (a ≡ true) → not a ≡ true
none_missing true h = absurd (h refl)
none_missing false h = refl

-- a fresh id of an item leaves less unreached
fresh_less : (items : List Item) (old new : List ℕ) (n : ℕ) → IsWith old n true new → IsIdOf items n
    → count_by (λ b. not (is_reached new b)) items + 1 ≤ count_by (λ b. not (is_reached old b)) items
fresh_less items old new n w h =
    let at = h.some in
    let place : get_or items at.0 at.1 ≡ at.1 = at.3 in
    let now_reached : Contains new at.1.id = subst (Contains new) (sym at.4) w.here in
    let not_before : ¬ (Contains old at.1.id) = λ c. w.fresh_is refl (subst (Contains old) at.4 c) in
    fewer_by (λ b. not (is_reached new b)) (λ b. not (is_reached old b)) items at.0 at.1 (earlier old new w.kept) at.2
    (ap (λ b. not (is_reached new b)) place ∙ ap not (reached_is new at.1 now_reached))
    (ap (λ b. not (is_reached old b)) place ∙ none_missing _ (λ r. not_before (is_reached_is old at.1 r)))

-- ---- taking in
pub taken_none : (reached waiting : List ℕ) → IsTakenIn reached waiting [] reached waiting
taken_none reached waiting = record {
  kept = λ q h. h;
  taken = All-nil (Contains reached);
  only = λ q h. inl h;
  waiting_kept = λ q h. h;
  waiting_only = λ q h. inl h;
  work_left = λ items each. omega arith;
}

module _ (r w ids r1 w1 r2 : List ℕ) (id : ℕ) (t : IsTakenIn r w ids r1 w1) where
  taken_more : (fresh : Bool) → IsWith r1 id fresh r2 → All (Contains r2) (ids ++ id ∷ [])
  taken_more fresh s = All-push (Contains r2) ids id (All-weaker (Contains r1) (Contains r2) s.kept ids t.taken) s.here

  -- a fresh id is reached, and waits
  pub taken_fresh : IsWith r1 id true r2 → IsTakenIn r w (ids ++ id ∷ []) r2 (w1 ++ id ∷ [])
  taken_fresh s = record {
    kept = λ q h. s.kept q (t.kept q h);
    taken = taken_more true s;
    only = λ q h. elim (s.only q h) [
      | inl old ↦ elim (t.only q old) [
        | inl a ↦ inl a
        | inr b ↦
            inr (Contains-append_left ids (id ∷ []) q b.0, Contains-append_left w1 (id ∷ []) q b.1)
      ]
      | inr same ↦
          inr (
            subst (Contains (ids ++ id ∷ [])) (sym same) (Contains-push ids id),
            subst (Contains (w1 ++ id ∷ [])) (sym same) (Contains-push w1 id),
          )
    ];
    waiting_kept = λ q h. Contains-append_left w1 (id ∷ []) q (t.waiting_kept q h);
    waiting_only = λ q h. elim (Contains-push_cases w1 id q h) [
      | inl old ↦ elim (t.waiting_only q old) [ inl a ↦ inl a | inr b ↦ inr (Contains-append_left ids (id ∷ []) q b) ]
      | inr same ↦ inr (subst (Contains (ids ++ id ∷ [])) same (Contains-push ids id))
    ];
    work_left = λ items each. let front = All-pop (IsIdOf items) (ids ++ id ∷ []) ids (Some id) refl each in
        omega (arith, t.work_left items front.0, fresh_less items r1 r2 id s front.1, length_push w1 id);
  }

  -- an id that was reached stays so
  pub taken_stale : IsWith r1 id false r2 → IsTakenIn r w (ids ++ id ∷ []) r2 w1
  taken_stale s = record {
    kept = λ q h. s.kept q (t.kept q h);
    taken = taken_more false s;
    only = λ q h. let before : Contains r1 q =
        elim (s.only q h) [ inl old ↦ old | inr same ↦ subst (Contains r1) (sym same) (s.stale_is refl) ] in
        elim (t.only q before) [ inl a ↦ inl a | inr b ↦ inr (Contains-append_left ids (id ∷ []) q b.0, b.1) ];
    waiting_kept = t.waiting_kept;
    waiting_only =
        λ q h. elim (t.waiting_only q h) [ inl a ↦ inl a | inr b ↦ inr (Contains-append_left ids (id ∷ []) q b) ];
    work_left = λ items each. let front = All-pop (IsIdOf items) (ids ++ id ∷ []) ids (Some id) refl each in
        omega (
          arith,
          t.work_left items front.0,
          fewer (λ b. not (is_reached r2 b)) (λ b. not (is_reached r1 b)) items
              (earlier r1 r2 s.kept),
        );
  }

-- where nothing was taken in before, one id is
pub taken_one : (r w r' w' : List ℕ) (id : ℕ) → IsWith r id true r' → w' ≡ w ++ id ∷ []
    → IsTakenIn r w (id ∷ []) r' w'
taken_one r w r' w' id s is =
    subst (λ (v : List ℕ). IsTakenIn r w (id ∷ []) r' v) (sym is) (taken_fresh r w [] r w r' id (taken_none r w) s)

-- and none, where it was reached
pub taken_again : (r w r' w' : List ℕ) (id : ℕ) → IsWith r id false r' → w' ≡ w → IsTakenIn r w (id ∷ []) r' w'
taken_again r w r' w' id s is =
    subst (λ (v : List ℕ). IsTakenIn r w (id ∷ []) r' v) (sym is) (taken_stale r w [] r w r' id (taken_none r w) s)

-- all in a list of one is that one
the_one : (id q : ℕ) → Contains (id ∷ []) q → id ≡ q
the_one id q h = elim (Contains-push_cases [] id q h) [ inl none ↦ absurd (omega (arith, none.1)) | inr same ↦ same ]

-- one id more is taken in
pub taken_then : (r w ids r1 w1 r2 w2 : List ℕ) (id : ℕ) → IsTakenIn r w ids r1 w1 → IsTakenIn r1 w1 (id ∷ []) r2 w2
    → IsTakenIn r w (ids ++ id ∷ []) r2 w2
taken_then r w ids r1 w1 r2 w2 id t s =
    let last : (q : ℕ) → Contains (id ∷ []) q → Contains (ids ++ id ∷ []) q =
    λ q h. subst (Contains (ids ++ id ∷ [])) (the_one id q h) (Contains-push ids id) in
    record {
      kept = λ q h. s.kept q (t.kept q h);
      taken = All-push (Contains r2) ids id (All-weaker (Contains r1) (Contains r2) s.kept ids t.taken)
          (All-head (Contains r2) id [] s.taken);
      only = λ q h. elim (s.only q h) [
        | inl old ↦ elim (t.only q old) [
          | inl a ↦ inl a
          | inr b ↦
              inr (Contains-append_left ids (id ∷ []) q b.0, s.waiting_kept q b.1)
        ]
        | inr both ↦ inr (last q both.0, both.1)
      ];
      waiting_kept = λ q h. s.waiting_kept q (t.waiting_kept q h);
      waiting_only = λ q h. elim (s.waiting_only q h) [
        | inl old ↦ elim (t.waiting_only q old) [
          | inl a ↦ inl a
          | inr b ↦ inr (Contains-append_left ids (id ∷ []) q b)
        ]
        | inr one ↦ inr (last q one)
      ];
      work_left = λ items each. let front = All-pop (IsIdOf items) (ids ++ id ∷ []) ids (Some id) refl each in
          omega (
            arith,
            t.work_left items front.0,
            s.work_left items (All-push (IsIdOf items) [] id (All-nil (IsIdOf items)) front.1),
          );
    }
