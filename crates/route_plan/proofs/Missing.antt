-- What is missed of a list, in parts: of the elements that a test picks, and of the others.
use Rattle.std.proofs.Common.{◌≡◌, ℕ, ◌+◌, Bool, true, false, true≢false, cond, List, [], ◌∷◌, arith, inl, inr, refl}
use Rattle.std.proofs.Common.{sym, ◌∙◌}
use Rattle.std.specs.Prelude.{Contains, filter}
use Prim.Native.Nat.{suc}
use Rattle.pcb_model.specs.Counts.{Counts}
use Rattle.move_maps.specs.Maps.{Misses}

-- what holds of each element of a list does of each behind the first
rest_of : {X : Type 0} (R : X → Type 0) (x : X) (xs : List X) → ((y : X) → Contains (x ∷ xs) y → R y) → (y : X)
    → Contains xs y → R y
rest_of R x xs f y h = f y (suc h.0, omega (arith, h.1), h.2)

-- what is missed is counted by what holds just where it is missed
pub counted_by : {X : Type 0} (P Q : X → Type 0) (xs : List X) (n : ℕ)
    → ((x : X) → Contains xs x → (P x → ¬ (Q x)) × (¬ (P x) → Q x)) → Misses P xs n → Counts Q xs n
counted_by P Q [] n f h = h
counted_by P Q (x ∷ xs) n f (inl (holds, rest)) = inr (
  (f x (0, omega arith, refl)).0 holds,
  counted_by P Q xs n (rest_of (λ y. (P y → ¬ (Q y)) × (¬ (P y) → Q y)) x xs f) rest,
)
counted_by P Q (x ∷ xs) n f (inr (fails, m, e, rest)) = inl (
  (f x (0, omega arith, refl)).1 fails,
  m,
  e,
  counted_by P Q xs m (rest_of (λ y. (P y → ¬ (Q y)) × (¬ (P y) → Q y)) x xs f) rest,
)

-- two properties that hold of the same elements are missed as often
pub missed_alike : {X : Type 0} (P Q : X → Type 0) (xs : List X) (n : ℕ) → ((x : X) → P x → Q x)
    → ((x : X) → Q x → P x) → Misses P xs n → Misses Q xs n
missed_alike P Q [] n to from h = h
missed_alike P Q (x ∷ xs) n to from (inl (holds, rest)) = inl (to x holds, missed_alike P Q xs n to from rest)
missed_alike P Q (x ∷ xs) n to from (inr (fails, m, e, rest)) =
    inr ((λ q. fails (from x q)), m, e, missed_alike P Q xs m to from rest)

-- where none of a list is missed, none of a part of it is
pub none_of_part : {X : Type 0} (P : X → Type 0) (p : X → Bool) (xs : List X) (n : ℕ) → n ≡ 0 → Misses P xs n
    → Misses P (filter p xs) n
none_of_part P p [] n e h = h
none_of_part {X} P p (x ∷ xs) n e (inl (holds, rest)) = by (p x) (none_of_part P p xs n e rest)
  where
    by : (b : Bool) → Misses P (filter p xs) n → Misses P (cond b (x ∷ filter p xs) (filter p xs)) n
    by true some = inl (holds, some)
    by false some = some
none_of_part P p (x ∷ xs) n e (inr (fails, m, i, rest)) = absurd (omega (arith, e, i))

module _ {X : Type 0} (P : X → Type 0) (p : X → Bool) where
  -- P holds, unless the test picks it
  abbrev pub OnOthers : X → Type 0
  OnOthers x = p x ≡ false → P x

  -- of a list f are missed among those that the test picks, and the rest among the others
  abbrev pub Apart : List X → ℕ → ℕ → Type 0
  Apart xs n f = (k : ℕ) × (n ≡ f + k) × Misses OnOthers xs k

  -- with one more element that is picked
  picked : (x : X) (xs : List X) (n f : ℕ) → p x ≡ true
      → ((m g : ℕ) → Misses P xs m → Misses P (filter p xs) g → Apart xs m g)
      → Misses P (x ∷ xs) n → Misses P (x ∷ filter p xs) f → Apart (x ∷ xs) n f
  picked x xs n f e go (inl (holds, rest)) (inl (also, some)) =
      let r = go n f rest some in (r.0, r.1, inl ((λ q. absurd (true≢false (sym e ∙ q))), r.2))
  picked x xs n f e go (inl (holds, rest)) (inr (fails, g, i, some)) = absurd (fails holds)
  picked x xs n f e go (inr (fails, m, i, rest)) (inl (holds, some)) = absurd (fails holds)
  picked x xs n f e go (inr (fails, m, i, rest)) (inr (also, g, j, some)) =
      let r = go m g rest some in
      let sum = r.1 in
      (r.0, omega (arith, i, j, sum), inl ((λ q. absurd (true≢false (sym e ∙ q))), r.2))

  -- with one more that isn't
  passed_by : (x : X) (xs : List X) (n f : ℕ) → p x ≡ false
      → ((m g : ℕ) → Misses P xs m → Misses P (filter p xs) g → Apart xs m g)
      → Misses P (x ∷ xs) n → Misses P (filter p xs) f → Apart (x ∷ xs) n f
  passed_by x xs n f e go (inl (holds, rest)) some =
      let r = go n f rest some in (r.0, r.1, inl ((λ q. holds), r.2))
  passed_by x xs n f e go (inr (fails, m, i, rest)) some =
      let r = go m f rest some in
      let sum = r.1 in
      (r.0 + 1, omega (arith, i, sum), inr ((λ on. fails (on e)), r.0, refl, r.2))

  -- with one more, picked or not
  one_more : (x : X) (xs : List X) (n f : ℕ) → ((m g : ℕ) → Misses P xs m → Misses P (filter p xs) g → Apart xs m g)
      → Misses P (x ∷ xs) n → (b : Bool) → p x ≡ b → Misses P (cond b (x ∷ filter p xs) (filter p xs)) f
      → Apart (x ∷ xs) n f
  one_more x xs n f go h true e some = picked x xs n f e go h some
  one_more x xs n f go h false e some = passed_by x xs n f e go h some

  -- so it is for all
  pub missed_apart : (xs : List X) (n f : ℕ) → Misses P xs n → Misses P (filter p xs) f → Apart xs n f
  missed_apart [] n f h k = (0, omega (arith, h, k), refl)
  missed_apart (x ∷ xs) n f h k = one_more x xs n f (λ m g i j. missed_apart xs m g i j) h (p x) refl k
