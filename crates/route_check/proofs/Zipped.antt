-- Two lists, element by element.
use Rattle.std.proofs.Common.{◌≡◌, ◌<◌, ℕ, zero, suc, List, [], ◌∷◌, Some, arith, length, refl, subst}
use Rattle.std.specs.Prelude.{slice_get}
use Rattle.std.specs.List.{AllZip}
use Rattle.std.proofs.lemmas.Option.{same_Some}

-- what holds of all pairs holds of those at a place
pub zip_at : {A B : Type 0} (R : A → B → Type 0) (us : List A) (vs : List B) → AllZip R us vs
    → (k : ℕ) (a : A) (b : B)
    → slice_get us k ≡ Some a → slice_get vs k ≡ Some b → R a b
zip_at R [] [] h k a b p q = absurd (cc)
zip_at R [] (y ∷ vs) h k a b p q = absurd h
zip_at R (x ∷ us) [] h k a b p q = absurd h
zip_at {A} {B} R (x ∷ us) (y ∷ vs) h zero a b p q =
    subst (λ (u : A). R u b) (same_Some x a p) (subst (λ (v : B). R x v) (same_Some y b q) h.0)
zip_at R (x ∷ us) (y ∷ vs) h (suc k) a b p q = zip_at R us vs h.1 k a b p q

-- and what holds of those at each place holds of all pairs
pub zip_from : {A B : Type 0} (R : A → B → Type 0) (us : List A) (vs : List B) → length us ≡ length vs
    → ((k : ℕ) (a : A) (b : B) → slice_get us k ≡ Some a → slice_get vs k ≡ Some b → R a b) → AllZip R us vs
zip_from R [] [] long each = tt
zip_from R [] (y ∷ vs) long each = absurd (omega (arith, long))
zip_from R (x ∷ us) [] long each = absurd (omega (arith, long))
zip_from R (x ∷ us) (y ∷ vs) long each =
    (each 0 x y refl refl, zip_from R us vs (omega (arith, long)) (λ k a b p q. each (suc k) a b p q))

-- a list that is as long has an element at the place, too
pub record AtPlace {A : Type 0} (xs : List A) (k : ℕ) : Type 0 where
  pub one : A
  pub is : slice_get xs k ≡ Some one

pub at_place : {A : Type 0} (xs : List A) (k : ℕ) → k < length xs → AtPlace xs k
at_place [] k low = absurd (omega (arith, low))
at_place (x ∷ xs) zero low = record { one = x; is = refl }
at_place (x ∷ xs) (suc k) low = let r = at_place xs k (omega (arith, low)) in record { one = r.one; is = r.is }
