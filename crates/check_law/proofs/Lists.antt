-- Elements of lists that are made of lists.
use Rattle.std.proofs.Common.{◌≡◌, inl, inr, ℕ, zero, suc, ◌+◌, ◌<◌, ◌≤◌, List, [], ◌∷◌, Some, refl, sym, subst}
use Rattle.std.proofs.Common.{arith, map, length}
use Rattle.std.specs.Prelude.{Contains, slice_get}
use Rattle.std.specs.List.{flat_map, range_with_len}
use Rattle.std.proofs.lemmas.Bool.{cases_lt}
use Rattle.std.proofs.lemmas.List.Elements.{Contains-append_left, Contains-append_right}
use Rattle.pcb_islands.proofs.Elements.{in_none, in_here, in_later, in_cons}

-- of what an element becomes
pub mapped : {X Y : Type 0} (f : X → Y) (xs : List X) (x : X) → Contains xs x → Contains (map f xs) (f x)
mapped f [] x h = absurd (in_none x h)
mapped {X} {Y} f (y ∷ xs) x h = elim (in_cons y x xs h) [
  | inl same ↦ subst (λ (z : X). Contains (map f (y ∷ xs)) (f z)) same (in_here (f y) (map f xs))
  | inr more ↦ in_later (f y) (f x) (map f xs) (mapped f xs x more)
]

-- what an element came from
pub record IsMapped {X Y : Type 0} (f : X → Y) (xs : List X) (y : Y) : Type 0 where
  pub x : X
  pub there : Contains xs x
  pub is : f x ≡ y

pub from_map : {X Y : Type 0} (f : X → Y) (xs : List X) (y : Y) → Contains (map f xs) y → IsMapped f xs y
from_map f [] y h = absurd (in_none y h)
from_map f (x ∷ xs) y h = elim (in_cons (f x) y (map f xs) h) [
  | inl same ↦ record { x = x; there = in_here x xs; is = same }
  | inr more ↦
      let r = from_map f xs y more in record { x = r.x; there = in_later x r.x xs r.there; is = r.is }
]

-- of what is made of an element
pub flat : {X Y : Type 0} (f : X → List Y) (xs : List X) (x : X) (y : Y) → Contains xs x → Contains (f x) y
    → Contains (flat_map f xs) y
flat f [] x y h k = absurd (in_none x h)
flat {X} f (z ∷ xs) x y h k = elim (in_cons z x xs h) [
  | inl same ↦ Contains-append_left (f z) (flat_map f xs) y (subst (λ (u : X). Contains (f u) y) (sym same) k)
  | inr more ↦ Contains-append_right (f z) (flat_map f xs) y (flat f xs x y more k)
]

-- of numbers one after another
pub in_range : (a n k : ℕ) → a ≤ k → k < a + n → Contains (range_with_len a n) k
in_range a zero k h l = absurd (omega arith)
in_range a (suc n) k h l = elim (cases_lt a k) [
  | inl less ↦ in_later a k (range_with_len (a + 1) n) (in_range (a + 1) n k (omega arith) (omega arith))
  | inr more ↦
      let e : a ≡ k = omega arith in
      subst (Contains (range_with_len a (suc n))) e (in_here a (range_with_len (a + 1) n))
]

-- the element at a place within a list
pub there : {X : Type 0} (xs : List X) (k : ℕ) → k < length xs → (x : X) × (slice_get xs k ≡ Some x)
there [] k within = absurd (omega arith)
there (x ∷ xs) zero within = (x, refl)
there (x ∷ xs) (suc k) within = there xs k (omega arith)
