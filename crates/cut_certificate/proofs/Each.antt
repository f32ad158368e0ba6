-- Loops that test each element, and what a test says.
use Rattle.std.proofs.Common.{◌≡◌, ℕ, ◌+◌, ◌<◌, ◌≤◌, List, length, take, get_or, Bool, true, false, not, sym, refl, ◌∙◌}
use Rattle.std.proofs.Common.{subst, arith, All, inl, inr}
use Rattle.std.specs.Prelude.{IsTrue, ◌↔◌, slice_index}
use Rattle.std.proofs.lemmas.Bool.{false≢true, cases_lt}
use Rattle.std.proofs.lemmas.List.{length-take, get_or-take}
use Rattle.std.proofs.lemmas.List.Elements.{All-more}

module _ {X : Type 0} (P : X → Type 0) (xs : List X) (i : ℕ) where
  -- the invariant after one element more
  pub each_more : (d : X) → i < length xs → All P (take i xs) → P (get_or xs i d) → All P (take (i + 1) xs)
  each_more d h a p = All-more P xs i d h a p

  -- at the end
  pub each_true : length xs ≤ i → All P (take i xs) → (IsTrue true → All P xs) × (All P xs → IsTrue true)
  each_true h a =
      (λ _ k d l. subst P (get_or-take i xs k d (omega arith)) (a k d (omega (arith, length-take i xs))), λ _. refl)

  -- at an element that fails
  pub each_false : (d : X) → i < length xs → (P (get_or xs i d) → ⊥)
      → (IsTrue false → All P xs) × (All P xs → IsTrue false)
  each_false d h f = (λ t. absurd (false≢true t), λ a. absurd (f (a i d h)))

-- what a test says where it fails
pub unless : (b : Bool) (Q : Type 0) → (IsTrue b ↔ Q) → b ≡ false → Q → ⊥
unless b Q iff f q = false≢true (sym f ∙ iff.1 q)

-- what a test answers where the fact cannot hold
pub refused : (Q : Type 0) → (Q → ⊥) → (IsTrue false → Q) × (Q → IsTrue false)
refused Q f = (λ t. absurd (false≢true t), λ q. absurd (f q))

-- the last of three tests
pub not_needed : (t : Bool) (A L K : Type 0) → (IsTrue t ↔ L) → A → (K → ⊥) → IsTrue (not t) ↔ (A → L → K)
not_needed true A L K iff a out = (λ h. absurd (false≢true h), λ f. absurd (out (f a (iff.0 refl))))
not_needed false A L K iff a out = (λ _ x l. absurd (false≢true (iff.1 l)), λ _. refl)

-- ---- neighbours
-- numbers that rise to a place rise to the next
pub rises_more : (xs : List ℕ) (k : ℕ) → ((j : ℕ) → j + 1 < k → slice_index xs j < slice_index xs (j + 1))
    → ((i : ℕ) → i + 1 ≡ k → slice_index xs i < slice_index xs k)
    → (j : ℕ) → j + 1 < k + 1 → slice_index xs j < slice_index xs (j + 1)
rises_more xs k up here j h = elim (cases_lt (j + 1) k) [
  | inl lt ↦ up j lt
  | inr ge ↦ let e : j + 1 ≡ k = omega (arith, h, ge) in
      subst (λ (i : ℕ). slice_index xs j < slice_index xs i) (sym e) (here j e)
]
