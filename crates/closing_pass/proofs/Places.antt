-- A list without the element at a place.
use Rattle.std.proofs.Common.{◌≡◌, ◌≢◌, inl, inr, ◌<◌, ◌≤◌, ℕ, zero, suc, ap, List, [], ◌∷◌, length, arith, Some, None}
use Rattle.std.specs.List.{Contains, remove, insert, slice_get}
use Rattle.pcb_islands.proofs.Elements.{in_none, in_cons, look_at}

-- the place of an element that is left
pub record HasOtherPlace {X : Type 0} (xs : List X) (i : ℕ) (y : X) : Type 0 where
  pub place : ℕ
  pub other : i ≢ place
  pub there : slice_get xs place ≡ Some y

pub other_place : {X : Type 0} (xs : List X) (i : ℕ) (y : X) → Contains (remove xs i) y → HasOtherPlace xs i y
other_place [] zero y there = absurd (in_none y there)
other_place [] (suc i) y there = absurd (in_none y there)
other_place (x ∷ xs) zero y there = record {
  place = suc there.0;
  other = λ e. absurd (omega (arith, e));
  there =
      look_at xs y there;
}
other_place (x ∷ xs) (suc i) y there = elim (in_cons x y (remove xs i) there) [
  | inl here ↦ record { place = zero; other = λ e. absurd (omega (arith, e)); there = ap Some here }
  | inr later ↦ (let found = other_place xs i y later in record
      { place = suc found.place; other = λ e. found.other (omega (arith, e)); there = found.there })
]

none_some : {X : Type 0} (x : X) → None ≡ Some x → ⊥
none_some x e = cc

-- an element that is put back
pub put_again : {X : Type 0} (xs : List X) (i : ℕ) (x : X) → slice_get xs i ≡ Some x → insert (remove xs i) i x ≡ xs
put_again [] i x there = absurd (none_some x there)
put_again (y ∷ xs) zero x there = cc
put_again (y ∷ xs) (suc i) x there = ap (λ rest. y ∷ rest) (put_again xs i x there)

-- it has a place there
pub place_within : {X : Type 0} (xs : List X) (i : ℕ) → i < length xs → i ≤ length (remove xs i)
place_within [] i within = absurd (omega (arith, within))
place_within (y ∷ xs) zero within = omega arith
place_within (y ∷ xs) (suc i) within = let before = place_within xs i (omega (arith, within)) in omega (arith, before)
