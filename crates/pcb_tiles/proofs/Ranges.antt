-- Lists made from a function of the place.
use Rattle.std.proofs.Common.{◌≡◌, ℕ, ◌+◌, ◌-◌, ◌<◌, ◌≤◌, Bool, true, false, List, [], ◌∷◌, length, map}
use Rattle.std.proofs.Common.{get_or, refl, ap, ◌∙◌, arith}
use Prim.Native.Nat.{zero, suc}
use Rattle.std.specs.List.{range_with_len, sum_by}
use Rattle.std.specs.Bool.{OnTrue, OnFalse}
use Rattle.std.proofs.lemmas.List.Sums.{sum_by-cons}

pub get_or_any : {X : Type 0} (xs : List X) (k : ℕ) (d e : X) → k < length xs → get_or xs k d ≡ get_or xs k e
get_or_any [] k d e h = absurd (omega arith)
get_or_any (x ∷ xs) zero d e h = refl
get_or_any (x ∷ xs) (suc k) d e h = get_or_any xs k d e (omega arith)

-- two functions that agree at each place make the same list
pub map_range_agree : {X : Type 0} (f g : ℕ → X) (a n : ℕ) → ((k : ℕ) → a ≤ k → k < a + n → f k ≡ g k)
    → map f (range_with_len a n) ≡ map g (range_with_len a n)
map_range_agree f g a zero h = refl
map_range_agree f g a (suc n) h =
    let here = h a (omega arith) (omega arith) in
    let rest = map_range_agree f g (a + 1) n (λ k l m. h k (omega arith) (omega arith)) in
    cc

-- and the same sum
pub sum_range_agree : (f g : ℕ → ℕ) (a n : ℕ) → ((k : ℕ) → a ≤ k → k < a + n → f k ≡ g k)
    → sum_by f (range_with_len a n) ≡ sum_by g (range_with_len a n)
sum_range_agree f g a zero h = refl
sum_range_agree f g a (suc n) h =
    let here = h a (omega arith) (omega arith) in
    let rest = sum_range_agree f g (a + 1) n (λ k l m. h k (omega arith) (omega arith)) in
    omega (arith, here, rest, sum_by-cons f a (range_with_len (a + 1) n), sum_by-cons g a (range_with_len (a + 1) n))

-- one more place in a sum
sum_range_suc : (f : ℕ → ℕ) (a n j : ℕ) → j ≡ a + n
    → sum_by f (range_with_len a (suc n)) ≡ sum_by f (range_with_len a n) + f j
sum_range_suc f a zero j e = let h : f a ≡ f j = ap f (omega (arith, e)) in omega (arith, h)
sum_range_suc f a (suc n) j e =
    let rest = sum_range_suc f (a + 1) n j (omega (arith, e)) in
    omega (arith, rest, sum_by-cons f a (range_with_len (a + 1) (suc n)), sum_by-cons f a (range_with_len (a + 1) n))

pub sum_range_more : (f : ℕ → ℕ) (a i : ℕ) → a ≤ i
    → sum_by f (range_with_len a ((i + 1) - a)) ≡ sum_by f (range_with_len a (i - a)) + f i
sum_range_more f a i h =
    let e : (i + 1) - a ≡ suc (i - a) = omega arith in
    ap (λ (n : ℕ). sum_by f (range_with_len a n)) e ∙ sum_range_suc f a (i - a) i (omega arith)

pub sum_range_none : (f : ℕ → ℕ) (a : ℕ) → sum_by f (range_with_len a (a - a)) ≡ 0
sum_range_none f a = let e : a - a ≡ 0 = omega arith in ap (λ (n : ℕ). sum_by f (range_with_len a n)) e

-- the first places sum to no more than all
pub sum_range_part : (f : ℕ → ℕ) (a m n : ℕ) → m ≤ n
    → sum_by f (range_with_len a m) ≤ sum_by f (range_with_len a n)
sum_range_part f a zero n h = omega arith
sum_range_part f a (suc m) zero h = absurd (omega (arith, h))
sum_range_part f a (suc m) (suc n) h =
    let rest = sum_range_part f (a + 1) m n (omega (arith, h)) in
    omega (arith, rest, sum_by-cons f a (range_with_len (a + 1) m), sum_by-cons f a (range_with_len (a + 1) n))

-- ---- answers of a test
pub on_true : {P Q : Type 0} (b : Bool) → (P → Q) → OnTrue b P → OnTrue b Q
on_true true f h = f h
on_true false f h = h

pub on_false : {P Q : Type 0} (b : Bool) → (P → Q) → OnFalse b P → OnFalse b Q
on_false true f h = h
on_false false f h = f h
