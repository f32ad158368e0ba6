-- Lists of numbers that ascend: one more at the end, and a binary search among them.
use Rattle.std.proofs.Common.{◌≡◌, ℕ, ◌+◌, ◌<◌, ◌≤◌, List, [], ◌∷◌, ◌++◌, length, get_or, Result, Ok, Err, refl, sym}
use Rattle.std.proofs.Common.{ap}
use Rattle.std.proofs.Common.{◌∙◌, inl, inr, arith}
use Rattle.std.specs.Prelude.{IsTrue, Contains, All}
use Rattle.std.specs.Result.{is_ok}
use Rattle.std.specs.Ordering.{nat_cmp}
use Rattle.std.specs.List.Sorted.{IsStrictlyIncreasing, IsBinarySearchResult}
use Rattle.std.proofs.lemmas.Bool.{false≢true, cases_lt}
use Rattle.std.proofs.lemmas.List.{length_push, get_or_append_left, get_or_push, get_or_default}
use Rattle.std.proofs.lemmas.List.Kept.{AllPairs-from_increasing}
use Rattle.std.proofs.lemmas.List.Sorted.{searched}

-- a number above all goes to the end
pub ascend_push : (xs : List ℕ) (n : ℕ) → IsStrictlyIncreasing xs → All (λ x. x < n) xs
    → IsStrictlyIncreasing (xs ++ n ∷ [])
ascend_push xs n up below k within = elim (cases_lt (k + 1) (length xs)) [
  | inl h ↦
      let a = get_or_append_left xs (n ∷ []) 0 k (omega arith) in
      let b = get_or_append_left xs (n ∷ []) 0 (k + 1) h in omega (arith, a, b, up k h)
  | inr h ↦
      let inside : k < length xs = omega (arith, length_push xs n) in
      let last : length xs ≡ k + 1 = omega (arith, length_push xs n) in
      omega (arith, get_or_append_left xs (n ∷ []) 0 k inside, get_or_push xs n 0 (k + 1) last, below k 0 inside)
]

-- numbers that ascend don't fall
rises : (xs : List ℕ) → IsStrictlyIncreasing xs → (i j : ℕ) → i ≤ j → j < length xs → get_or xs i 0 ≤ get_or xs j 0
rises xs up i j le lt = elim (cases_lt i j) [
  | inl before ↦ omega (arith, AllPairs-from_increasing xs up i j 0 before lt)
  | inr after ↦ let same : i ≡ j = omega arith in omega (arith, ap (λ (k : ℕ). get_or xs k 0) same)
]

-- a number is found exactly where it is there
pub found_number : (xs : List ℕ) (x : ℕ) (r : Result ℕ ℕ) → IsStrictlyIncreasing xs
    → IsBinarySearchResult (λ y. nat_cmp y x) xs r
    → (IsTrue (is_ok r) → Contains xs x) × (Contains xs x → IsTrue (is_ok r))
found_number xs x (Ok i) up h =
    let s : (i < length xs) × (get_or xs i 0 ≡ x) = searched xs x (Ok i) h (rises xs up) in
    (λ _. (i, s.0, get_or_default xs i x 0 s.0 ∙ s.1), λ _. refl)
found_number xs x (Err i) up h =
    let s : (i ≤ length xs) × ((k : ℕ) → k < i → get_or xs k 0 < x)
    × ((k : ℕ) → i ≤ k → k < length xs → x < get_or xs k 0) = searched xs x (Err i) h (rises xs up) in (
      λ t. absurd (false≢true t),
      λ c. let same : get_or xs c.0 0 ≡ x = sym (get_or_default xs c.0 x 0 c.1) ∙ c.2 in absurd (elim (cases_lt c.0 i) [
        | inl before ↦ omega (arith, s.1 c.0 before, same)
        | inr after ↦ omega (arith, s.2 c.0 after c.1, same)
      ]),
    )
