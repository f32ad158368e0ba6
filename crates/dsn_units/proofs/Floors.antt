-- Whole numbers beside a fraction.
use Rattle.std.proofs.Common.{◌≡◌, ◌<◌, ◌≤◌, ◌+◌, ◌-◌, ◌*◌, ◌/◌, ◌∙◌, ap, ℕ, Bool, true, false, arith, refl, zero, suc}
use Rattle.std.proofs.Common.{ℤ, pos, negsuc, ◌+ℤ◌, ◌*ℤ◌, neg_ℤ, ◌≤ℤ◌, ◌<ℤ◌}
use Rattle.std.specs.Prelude.{unsigned_abs}
use Rattle.std.proofs.lemmas.Int.{ints}
use Rattle.std.proofs.lemmas.Bool.{false≢true}
use Rattle.std.proofs.Math.Nat.{le_of_mul-le-mul_left, lt_of_mul-lt-mul_left, mul-le-mul_right, div-mul-le_self}
use Rattle.std.proofs.Math.Nat.{lt-div-mul-add}
use Rattle.std.specs.Int.{int_div_euclid, div_ceil}
use Rattle.std.proofs.lemmas.Nat.{div-mul-add}
use Rattle.std.proofs.lemmas.Grind.{div_ceil_times}
use Rattle.dsn_units.specs.Halves.{IsHalves, nearest_half, roof_half}
use Rattle.dsn_units.specs.Length.{signed, nearest}

-- c is the greatest whole number that isn't above z / d
abbrev pub IsFloor : ℤ → ℕ → ℤ → Type 0
IsFloor z d c = ((c *ℤ pos d) ≤ℤ z) × (z <ℤ ((c *ℤ pos d) +ℤ pos d))

div_is : (n d k : ℕ) → k * d ≤ n → n < k * d + d → n / d ≡ k
div_is n d k low high = let e : n ≡ k * d + (n - k * d) = omega arith in
    ap (λ m. m / d) e ∙ div-mul-add k d (n - k * d) (omega arith)

pub floor_is : (z : ℤ) (d : ℕ) (c : ℤ) → IsFloor z d c → int_div_euclid z (pos d) ≡ c
floor_is (pos n) d (pos k) f = ap pos (div_is n d k (omega (arith, ints)) (omega (arith, ints)))
floor_is (pos n) d (negsuc k) f = absurd (omega (arith, ints))
floor_is (negsuc n) d (pos k) f = absurd (omega (arith, ints))
floor_is (negsuc n) d (negsuc k) f = ap negsuc (div_is n d k (omega (arith, ints)) (omega (arith, ints)))

floor_of : (z : ℤ) (d : ℕ) → 0 < d → IsFloor z d (int_div_euclid z (pos d))
floor_of (pos n) d h = (omega (arith, ints, div-mul-le_self n d), omega (arith, ints, lt-div-mul-add {a = n} {b = d} h))
floor_of (negsuc n) d h =
    (omega (arith, ints, lt-div-mul-add {a = n} {b = d} h), omega (arith, ints, div-mul-le_self n d))

-- the same as bounds on natural numbers, at a number from 0 up and at one from 0 down
floor_up : (n d k : ℕ) → k * (2 * d) ≤ 2 * n + d → 2 * n + d < (k + 1) * (2 * d)
    → IsFloor ((pos 2 *ℤ pos n) +ℤ pos d) (2 * d) (pos k)
floor_up n d k low high = (omega (arith, ints), omega (arith, ints))

floor_down : (n d k : ℕ) → 2 * n ≤ k * (2 * d) + d → k * (2 * d) < d + 2 * n
    → IsFloor ((pos 2 *ℤ neg_ℤ (pos n)) +ℤ pos d) (2 * d) (neg_ℤ (pos k))
floor_down zero d zero low high = (omega (arith, ints), omega (arith, ints))
floor_down zero d (suc k) low high = (omega (arith, ints), omega (arith, ints))
floor_down (suc n) d zero low high = (omega (arith, ints), omega (arith, ints))
floor_down (suc n) d (suc k) low high = (omega (arith, ints), omega (arith, ints))

-- the nearest whole number
pub size_value : (negative whole : Bool) (n d q : ℕ) → IsHalves n d q whole
    → IsFloor ((pos 2 *ℤ signed negative n) +ℤ pos d) (2 * d) (signed negative (nearest_half negative whole q))
size_value false whole n d q f = floor_up n d ((q + 1) / 2)
    (omega (arith, f.low, mul-le-mul_right d (let h : (q + 1) / 2 * 2 ≤ q + 1 = omega arith in h)))
    (omega (arith, f.high, mul-le-mul_right d (let h : q + 2 ≤ ((q + 1) / 2 + 1) * 2 = omega arith in h)))
size_value true false n d q f = floor_down n d ((q + 1) / 2)
    (omega (arith, f.high, mul-le-mul_right d (let h : q + 1 ≤ (q + 1) / 2 * 2 + 1 = omega arith in h)))
    (not_whole (f.low) (λ e. false≢true (f.whole.1 e))
    (mul-le-mul_right d (let h : (q + 1) / 2 * 2 ≤ q + 1 = omega arith in h)))
  where
    not_whole : q * d ≤ 2 * n → (2 * n ≡ q * d → ⊥) → (q + 1) / 2 * 2 * d ≤ (q + 1) * d
        → (q + 1) / 2 * (2 * d) < d + 2 * n
    not_whole low ne h = omega (arith, ne)
size_value true true n d q f = let e = f.whole.0 refl in floor_down n d (q / 2)
    (omega (arith, mul-le-mul_right d (let h : q ≤ q / 2 * 2 + 1 = omega arith in h)))
    (omega (arith, f.high, mul-le-mul_right d (let h : q / 2 * 2 ≤ q = omega arith in h)))

above : (n d q : ℕ) → n < (q + 1) * d → 0 < d
above n zero q h = absurd (omega arith)
above n (suc d) q h = omega arith

-- the least whole number from above
pub roof_value : (whole : Bool) (n d q : ℕ) → IsHalves n d q whole
    → (n ≤ roof_half whole q * d) × ((k : ℕ) → n ≤ k * d → roof_half whole q ≤ k)
roof_value true n d q f = let e = f.whole.0 refl in (
  omega (arith, mul-le-mul_right d (let h : q ≤ (q + 1) / 2 * 2 = omega arith in h)),
  λ k h. let m : q ≤ 2 * k = le_of_mul-le-mul_left {k = d} (omega arith) (positive f.high) in omega arith,
)
  where
    positive : 2 * n < (q + 1) * d → 0 < d
    positive h = above (2 * n) d q h
roof_value false n d q f = (
  omega (arith, f.high, mul-le-mul_right d (let h : q + 1 ≤ (q / 2 + 1) * 2 = omega arith in h)),
  λ k h. let m : q < 2 * k = lt_of_mul-lt-mul_left d (strict k (λ e. false≢true (f.whole.1 e)) f.low h) in omega arith,
)
  where
    strict : (k : ℕ) → (2 * n ≡ q * d → ⊥) → q * d ≤ 2 * n → n ≤ k * d → d * q < d * (2 * k)
    strict k ne low h = omega (arith, ne)

-- the nearest whole number, from a count of halves
pub nearest_is : (negative exact : Bool) (n d count : ℕ) → IsHalves n d count exact
    → nearest (signed negative n) d ≡ signed negative (nearest_half negative exact count)
nearest_is negative exact n d count h = floor_is _ (2 * d) _ (size_value negative exact n d count h)

far_up : (n d far : ℕ) (c : ℤ) → 0 < d → far * d < n → IsFloor ((pos 2 *ℤ pos n) +ℤ pos d) (2 * d) c
    → far < unsigned_abs c + 1
far_up n d far (pos k) some h f = lt_of_mul-lt-mul_left d (omega (arith, ints))
far_up n d far (negsuc k) some h f = absurd (omega (arith, ints))

far_down : (n d far : ℕ) (c : ℤ) → 0 < d → far * d < n → IsFloor ((pos 2 *ℤ neg_ℤ (pos n)) +ℤ pos d) (2 * d) c
    → far < unsigned_abs c + 1
far_down zero d far c some h f = absurd (omega arith)
far_down (suc n) d far (pos k) some h f = lt_of_mul-lt-mul_left d (omega (arith, ints))
far_down (suc n) d far (negsuc k) some h f = lt_of_mul-lt-mul_left d (omega (arith, ints))

-- the nearest whole number of a fraction that is far
pub nearest_far : (negative : Bool) (n d far : ℕ) → 0 < d → far * d < n
    → far < unsigned_abs (nearest (signed negative n) d) + 1
nearest_far false n d far some h = far_up n d far (nearest (pos n) d) some h (floor_of _ (2 * d) (omega arith))
nearest_far true n d far some h = far_down n d far (nearest (neg_ℤ (pos n)) d) some h (floor_of _ (2 * d) (omega arith))

-- rounded up
pub roof_is : (exact : Bool) (n d count : ℕ) → IsHalves n d count exact → div_ceil n d ≡ roof_half exact count
roof_is exact n d count h =
    let some : 0 < d = above (2 * n) d count h.high in
    let value : (n ≤ roof_half exact count * d) × ((k : ℕ) → n ≤ k * d → roof_half exact count ≤ k) =
    roof_value exact n d count h in
    let up : (n ≤ div_ceil n d * d) × (div_ceil n d * d < n + d) = div_ceil_times n d some in
    let low : roof_half exact count ≤ div_ceil n d = value.1 (div_ceil n d) up.0 in
    let high : div_ceil n d < roof_half exact count + 1 = lt_of_mul-lt-mul_left d (omega (arith, up.1, value.0)) in
    omega arith

pub roof_far : (n d far : ℕ) → 0 < d → far * d < n → far < div_ceil n d
roof_far n d far some h = let up : (n ≤ div_ceil n d * d) × (div_ceil n d * d < n + d) = div_ceil_times n d some in
    lt_of_mul-lt-mul_left d (omega (arith, up.0))
