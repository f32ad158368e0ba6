-- Elements of lists at their places.
use Rattle.std.proofs.Common.{◌≡◌, ℕ, zero, suc, ◌<◌, ◌+◌, ◌-◌, arith, refl, sym, ap, ◌∙◌, subst, List, [], ◌∷◌, ◌++◌}
use Rattle.std.proofs.Common.{length, get_or, take, drop, Some}
use Rattle.std.specs.Prelude.{slice_get}
use Rattle.std.proofs.lemmas.List.{drop_more, take_rest}
use Rattle.std.proofs.lemmas.Option.{none-some, same_Some}

-- what holds of each item at its place holds with one more
pub each_more : {X : Type 0} (P : ℕ → X → Type 0) (xs : List X) (x : X)
    → ((i : ℕ) (a : X) → slice_get xs i ≡ Some a → P i a) → P (length xs) x
    → (i : ℕ) (a : X) → slice_get (xs ++ x ∷ []) i ≡ Some a → P i a
each_more P [] x h last zero a e = subst (P 0) (same_Some x a e) last
each_more P [] x h last (suc i) a e = absurd (none-some a e)
each_more P (y ∷ ys) x h last zero a e = h zero a e
each_more P (y ∷ ys) x h last (suc i) a e =
    each_more (λ k. P (suc k)) ys x (λ k b f. h (suc k) b f) last i a e

-- an element that is copied
pub copied : {X : Type 0} (xs : List X) (k : ℕ) (a : X) → k < length xs → get_or xs k a ≡ get_or xs k (get_or xs k a)
copied [] k a within = absurd (omega arith)
copied (x ∷ xs) zero a within = refl
copied (x ∷ xs) (suc k) a within = copied xs k a (omega (arith, within))

-- there is an element at a place within the list
pub at_place : {X : Type 0} (xs : List X) (i : ℕ) → i < length xs → (x : X) × (slice_get xs i ≡ Some x)
at_place [] i within = absurd (omega arith)
at_place (x ∷ xs) zero within = (x, refl)
at_place (x ∷ xs) (suc i) within = at_place xs i (omega (arith, within))

-- the rest of a list from a place on is the element there and those behind it
pub split_at_place : {X : Type 0} (xs : List X) (i : ℕ) (x : X) → i < length xs → x ≡ get_or xs i x
    → drop i xs ≡ x ∷ take (length xs - (i + 1)) (drop (i + 1) xs)
split_at_place xs i x within is =
    drop_more xs i x within ∙ ap (λ y. y ∷ drop (i + 1) xs) (sym is)
    ∙ ap (λ ys. x ∷ ys) (sym (take_rest xs (i + 1)))
