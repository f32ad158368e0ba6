-- Sums over lists of views.
use Rattle.std.proofs.Common.{◌≡◌, ◌≢◌, ℕ, zero, suc, ◌+◌, ◌<◌, ◌≤◌, eqb, List, [], ◌∷◌, ◌++◌, length, get_or, set}
use Rattle.std.proofs.Common.{refl, sym, ap, ⊎_elim, arith, All, eq-eqb, ne_eqb}
use Rattle.std.proofs.lemmas.Bool.{lt-ltb, le-ltb, cases_order, cases_lt}
use mathlib.Core.Option.{some, some-ne-none, some-injective}
use lib.ListN.{get_elem?}
use Rattle.board_turn.specs.Claims.{total, one_if, times, once_below}

module _ {A : Type 0} where
  pub total-set : (f : A → ℕ) (l : List A) (i : ℕ) (a b : A) → get_elem? l i ≡ some a → total f (set l i b) + f a
      ≡ total f l + f b
  total-set f [] i a b e = absurd (some-ne-none a (sym e))
  total-set f (x ∷ xs) zero a b e = let same = ap f (some-injective x a e) in omega (arith, same)
  total-set f (x ∷ xs) (suc i) a b e = omega (arith, total-set f xs i a b e)

  pub total-snoc : (f : A → ℕ) (l : List A) (a : A) → total f (l ++ a ∷ []) ≡ total f l + f a
  total-snoc f [] a = omega arith
  total-snoc f (x ∷ xs) a = omega (arith, total-snoc f xs a)

  -- one of them is at most all
  pub total-at : (f : A → ℕ) (l : List A) (i : ℕ) (a : A) → get_elem? l i ≡ some a → f a ≤ total f l
  total-at f [] i a e = absurd (some-ne-none a (sym e))
  total-at f (x ∷ xs) zero a e = let same = ap f (some-injective x a e) in omega (arith, same)
  total-at f (x ∷ xs) (suc i) a e = omega (arith, total-at f xs i a e)

  -- two of them are at most all
  pub total-two : (f : A → ℕ) (l : List A) (i j : ℕ) (a b : A) → i ≢ j → get_elem? l i ≡ some a → get_elem? l j
      ≡ some b → f a + f b ≤ total f l
  total-two f [] i j a b n e g = absurd (some-ne-none a (sym e))
  total-two f (x ∷ xs) zero zero a b n e g = absurd (n refl)
  total-two f (x ∷ xs) zero (suc j) a b n e g = let same = ap f (some-injective x a e) in omega
      (arith, same, total-at f xs j b g)
  total-two f (x ∷ xs) (suc i) zero a b n e g = let same = ap f (some-injective x b g) in omega
      (arith, same, total-at f xs i a e)
  total-two f (x ∷ xs) (suc i) (suc j) a b n e g = omega (arith, total-two f xs i j a b (λ h. n (ap suc h)) e g)

  -- where one has all, each other has none
  pub total-none : (f : A → ℕ) (l : List A) (i : ℕ) (a : A) → get_elem? l i ≡ some a → total f l ≡ f a
      → (j : ℕ) (b : A) → i ≢ j → get_elem? l j ≡ some b → f b ≡ 0
  total-none f l i a e all j b n g = omega (arith, total-two f l i j a b n e g)

  pub total-zero : (f : A → ℕ) (l : List A) → ((j : ℕ) (b : A) → get_elem? l j ≡ some b → f b ≡ 0) → total f l ≡ 0
  total-zero f [] h = refl
  total-zero f (x ∷ xs) h = omega (arith, h 0 x refl, total-zero f xs (λ j b e. h (suc j) b e))

  -- the others have none, so one has all
  pub total-only : (f : A → ℕ) (l : List A) (i : ℕ) (a : A) → get_elem? l i ≡ some a
      → ((j : ℕ) (b : A) → i ≢ j → get_elem? l j ≡ some b → f b ≡ 0) → total f l ≡ f a
  total-only f [] i a e h = absurd (some-ne-none a (sym e))
  total-only f (x ∷ xs) zero a e h = let same = ap f (some-injective x a e) in omega
      (arith, same, total-zero f xs (λ j b g. h (suc j) b (λ z. omega arith) g))
  total-only f (x ∷ xs) (suc i) a e h = omega (
    arith,
    h 0 x (λ z. omega arith) refl,
    total-only f xs i a e
        (λ j b n g. h (suc j) b (λ z. n (omega arith)) g),
  )

pub times-append : (x : ℕ) (xs ys : List ℕ) → times x (xs ++ ys) ≡ times x xs + times x ys
times-append x [] ys = omega arith
times-append x (y ∷ xs) ys = omega (arith, times-append x xs ys)

-- one number more is below the next
pub once_below-suc : (x n : ℕ) → once_below x n + one_if (eqb n x) ≡ once_below x (n + 1)
once_below-suc x n =
    ⊎_elim
    (λ (e : x ≡ n). let a = ap one_if (le-ltb x n (omega arith)) in let b = ap one_if
    (eq-eqb n x (sym e)) in let c = ap one_if (lt-ltb x (n + 1) (omega arith)) in omega (arith, a, b, c))
    (λ r. ⊎_elim
    (λ (l : x < n). let a = ap one_if (lt-ltb x n l) in let b = ap one_if
    (ne_eqb n x (λ h. omega arith)) in let c = ap one_if (lt-ltb x (n + 1) (omega arith)) in omega (arith, a, b, c))
    (λ (l : n < x). let a = ap one_if (le-ltb x n (omega arith)) in let b = ap one_if
    (ne_eqb n x (λ h. omega arith)) in let c = ap one_if (le-ltb x (n + 1) (omega arith)) in omega (arith, a, b, c))
    r)
    (cases_order x n)

stands : (ys : List ℕ) (j d : ℕ) → j < length ys → 1 ≤ times (get_or ys j d) ys
stands [] j d e = absurd (omega arith)
stands (y ∷ ys) zero d e = let a = ap one_if (eq-eqb y y refl) in omega (arith, a)
stands (y ∷ ys) (suc j) d e = omega (arith, stands ys j d (omega arith))

-- what stands in a list and is nowhere at or above n is below n
pub times-below : (n : ℕ) (xs : List ℕ) → ((x : ℕ) → times x xs ≤ once_below x n) → All (λ x. x < n) xs
times-below n xs h k d l =
    let x : ℕ = get_or xs k d in
    let there = stands xs k d l in
    let bound = h x in
    ⊎_elim (λ (p : x < n). p) (λ (q : n ≤ x). let a = ap one_if (le-ltb x n q) in absurd
    (omega (arith, a, bound, there))) (cases_lt x n)
