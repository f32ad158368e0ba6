-- Fractions that are rounded as a decimal is, and decimals beyond all lengths.
use Rattle.std.proofs.Common.{◌≡◌, ◌<◌, ◌≤◌, ◌+◌, ◌*◌, ◌^◌, ◌||◌, ◌⊎◌, inl, inr, ◌∙◌, ⊎_elim, ap, ap₂, sym, subst, zero}
use Rattle.std.proofs.Common.{suc, ℕ, ℤ, pos, negsuc, ◌+ℤ◌, ◌*ℤ◌, neg_ℤ, ◌<ℤ◌, Bool, true, false, nat_le, nat_lt, Some}
use Rattle.std.proofs.Common.{None, arith, refl}
use Rattle.std.specs.Prelude.{min, unsigned_abs, if◌then◌else◌}
use Rattle.std.specs.Int.{div_ceil}
use Rattle.std.proofs.lemmas.Bool.{cases_lt}
use Rattle.std.proofs.lemmas.Bool.Decides.{nat_tests}
use Rattle.std.proofs.lemmas.Int.{ints}
use Rattle.std.proofs.lemmas.Grind.{div_ceil_times}
use Rattle.std.proofs.Math.Nat.{mul-le-mul_left, mul-le-mul_right, lt_of_mul-lt-mul_left}
use Rattle.geo_kernel.specs.Units.{unit_nm}
use Rattle.dsn_units.specs.declared.number.Decimal.{Decimal}
use Rattle.dsn_units.specs.Length.{bottom, is_below_zero, lowered, nearest, raised, signed}
use Rattle.dsn_units.proofs.Floors.{floor_is, nearest_far, roof_far}
use Rattle.dsn_units.proofs.Powers.{ten_power_le, ten_power_pos}
use Rattle.ses_reader.specs.declared.measure.Measure.{Measure}
use Rattle.ses_reader.specs.Measures.{IsFar, IsFractionOf, bottom_in, coord_of, extent_of, raised_up, rounded, top_in}

-- ---- numbers with many zeros
-- one that is large, or has many zeros, is beyond all lengths
pub grown_far : (n k : ℕ) → 0 < n → (2 ^ 62 < n) ⊎ (18 < k) → 2 ^ 62 < n * 10 ^ k
grown_far n k some (inl h) = omega (arith, mul-le-mul_left n (ten_power_le 0 k (omega arith)))
grown_far n k some (inr h) = omega (
  arith,
  mul-le-mul_left n (ten_power_le 19 k (omega arith)),
  mul-le-mul_right (10 ^ 19) (let q : 1 ≤ n = omega arith in q),
)

-- ---- fractions below one half
-- the nearest whole number to one is 0
pub nearest_small : (negative : Bool) (n d : ℕ) → 2 * n < d → nearest (signed negative n) d ≡ pos 0
nearest_small false n d h = floor_is ((pos 2 *ℤ pos n) +ℤ pos d) (2 * d) (pos 0)
    (omega (arith, ints), omega (arith, ints))
nearest_small true zero d h = floor_is ((pos 2 *ℤ neg_ℤ (pos zero)) +ℤ pos d) (2 * d) (pos 0)
    (omega (arith, ints), omega (arith, ints))
nearest_small true (suc n) d h = floor_is ((pos 2 *ℤ neg_ℤ (pos (suc n))) +ℤ pos d) (2 * d) (pos 0)
    (omega (arith, ints), omega (arith, ints))

-- a divisor of a lesser number is positive
some_below : (n d : ℕ) → n < d → 0 < d
some_below n d h = omega arith

-- nothing is rounded up to 0
ceil_zero : (n d c : ℕ) → n ≡ 0 → 0 < d → c * d < n + d → c ≡ 0
ceil_zero n d c e some h = let k : c < 1 = lt_of_mul-lt-mul_left d (omega arith) in omega arith

-- a fraction between 0 and 1 is rounded up to 1
ceil_one : (n d c : ℕ) → 0 < n → n < d → n ≤ c * d → c * d < n + d → c ≡ 1
ceil_one n d zero some h low high = absurd (omega arith)
ceil_one n d (suc c) some h low high = let k : suc c < 2 = lt_of_mul-lt-mul_left d (omega arith) in omega arith

-- what a fraction below 1 is rounded up to
ceil_is : (n d : ℕ) → n < d → div_ceil n d ≡ min n 1
ceil_is zero d h = ceil_zero zero d (div_ceil zero d) refl (some_below zero d h)
    (div_ceil_times zero d (some_below zero d h)).1 ∙ refl
ceil_is (suc n) d h =
    let up = div_ceil_times (suc n) d (some_below (suc n) d h) in
    ceil_one (suc n) d (div_ceil (suc n) d) (omega arith) h up.0 up.1 ∙ (let e : 1 ≡ min (suc n) 1 = omega arith in e)

-- fractions of one number below 1 are rounded up alike
pub ceil_small : (n d e : ℕ) → n < d → n < e → div_ceil n d ≡ div_ceil n e
ceil_small n d e h k = ceil_is n d h ∙ sym (ceil_is n e k)

-- ---- the fraction of a decimal
-- its divisor is positive
pub bottom_some : (m : Measure) (d : Decimal) → 1 ≤ m.per → 0 < bottom_in m d
bottom_some m d some = omega (arith, ten_power_pos (lowered d.exponent), mul-le-mul_left (bottom d) some)

-- the fraction itself
pub same_fraction : (m : Measure) (d : Decimal) (above below : ℕ) → above ≡ top_in m d → below ≡ bottom_in m d
    → 1 ≤ m.per → above < 2 ^ 90 → below < 2 ^ 124 → IsFractionOf m d above below
same_fraction m d above below up down some few_above few_below = record {
  some = subst (λ b. 0 < b) (sym down) (bottom_some m d some);
  few_above = few_above;
  few_below = few_below;
  nearest_is = λ negative. ap₂ (λ a b. nearest (signed negative a) b) up down;
  ceil_is = ap₂ (λ a b. div_ceil a b) up down;
}

-- one that is as far below one half
pub small_fraction : (m : Measure) (d : Decimal) (above below : ℕ) → above ≡ top_in m d → 2 * above < below
    → 2 * above < bottom_in m d → above < 2 ^ 90 → below < 2 ^ 124 → IsFractionOf m d above below
small_fraction m d above below up less far few_above few_below = record {
  some = omega arith;
  few_above = few_above;
  few_below = few_below;
  nearest_is = λ negative. nearest_small negative above below less
      ∙ sym (nearest_small negative above (bottom_in m d) far)
      ∙ ap (λ a. nearest (signed negative a) (bottom_in m d)) up;
  ceil_is = ceil_small above below (bottom_in m d) (omega arith) (omega arith)
      ∙ ap (λ a. div_ceil a (bottom_in m d)) up;
}

-- an exponent below 0 cuts so many digits
below_zero_lowered : (e : ℤ) → e <ℤ pos 0 → lowered e ≡ unsigned_abs e
below_zero_lowered (pos n) h = absurd (omega (arith, ints))
below_zero_lowered (negsuc n) h = refl

-- and appends none
below_zero_raised : (e : ℤ) → e <ℤ pos 0 → raised e ≡ 0
below_zero_raised (pos n) h = absurd (omega (arith, ints))
below_zero_raised (negsuc n) h = refl

-- a product of 64 and 25 bits
few_product : (a b : ℕ) → a < 2 ^ 64 → b ≤ 25400000 → a * b ≤ 2 ^ 64 * 25400000
few_product a b h k = omega (arith, mul-le-mul_right b (let f : a ≤ 2 ^ 64 = omega arith in f))

-- a power of ten with the parts of a unit
few_parts : (p per k : ℕ) → p ≡ 10 ^ k → k ≤ 27 → per < 2 ^ 32 → p * per < 2 ^ 124
few_parts p per k e h few = omega (
  arith,
  mul-le-mul_right per (let f : p ≤ 10 ^ 27 = omega (arith, ten_power_le k 27 h) in f),
)

-- at least 27 digits are cut
many_parts : (per k : ℕ) → 27 ≤ k → 1 ≤ per → 10 ^ 27 ≤ 10 ^ k * per
many_parts per k h some = omega (arith, mul-le-mul_right per (ten_power_le 27 k h), mul-le-mul_left (10 ^ 27) some)

-- a number that is cut by at least one digit
pub cut_is : (m : Measure) (d : Decimal) (above below times : ℕ) → d.exponent <ℤ pos 0 → times ≡ unsigned_abs d.exponent
    → above ≡ d.digits * unit_nm m.unit → below ≡ 10 ^ (min times 27) * m.per
    → d.digits < 2 ^ 64 → unit_nm m.unit ≤ 25400000 → 1 ≤ m.per → m.per < 2 ^ 32 → IsFractionOf m d above below
cut_is m d above below times negative size up down few nm some parts = ⊎_elim near far (cases_lt 27 times)
  where
    down_is : lowered d.exponent ≡ times
    down_is = below_zero_lowered d.exponent negative ∙ sym size

    up_is : above ≡ top_in m d
    up_is = up ∙ (let e : d.digits * unit_nm m.unit ≡ d.digits * unit_nm m.unit * 10 ^ 0 = omega arith in e)
        ∙ ap (λ r. d.digits * unit_nm m.unit * 10 ^ r) (sym (below_zero_raised d.exponent negative))

    small : above ≤ 2 ^ 64 * 25400000
    small = subst (λ a. a ≤ 2 ^ 64 * 25400000) (sym up) (few_product d.digits (unit_nm m.unit) few nm)

    few_below : below < 2 ^ 124
    few_below = subst (λ b. b < 2 ^ 124) (sym down)
        (few_parts (10 ^ min times 27) m.per (min times 27) refl (omega arith) parts)

    near : 27 < times → IsFractionOf m d above below
    near h = small_fraction m d above below up_is
        (subst (λ b. 2 * above < b) (sym down)
        (omega (arith, many_parts m.per (min times 27) (omega arith) some, small)))
        (subst (λ k. 2 * above < 10 ^ k * m.per) (sym down_is)
        (omega (arith, many_parts m.per times (omega arith) some, small)))
        (omega (arith, small)) few_below

    far : times ≤ 27 → IsFractionOf m d above below
    far h = same_fraction m d above below up_is
        (down ∙ ap (λ k. 10 ^ k * m.per) ((let e : min times 27 ≡ times = omega arith in e) ∙ sym down_is))
        some (omega (arith, small)) few_below

-- ---- within and past the limits
-- a number within a limit
within : {A : Type 0} (a m : ℕ) (x : A) → a ≤ m → (if nat_le a m then Some x else None) ≡ Some x
within a m x h = grind (arith, nat_tests)

-- a number past a limit
past : {A : Type 0} (a m : ℕ) (x : A) → m < a → (if nat_le a m then Some x else None) ≡ None
past a m x h = grind (arith, nat_tests)

-- a decimal beyond all lengths is no coordinate
pub coord_far : (m : Measure) (d : Decimal) → 1 ≤ m.per → IsFar m d → coord_of m d ≡ None
unfolding coord_of
coord_far m d some far = past _ _ _
    (let f : 2 ^ 30 < unsigned_abs (rounded m d) + 1 =
    nearest_far d.negative (top_in m d) (bottom_in m d) (2 ^ 30) (bottom_some m d some) far.beyond in
    omega arith)

-- nor is one whose nearest number passes the limit
pub coord_past : (m : Measure) (d : Decimal) (c : ℤ) → c ≡ rounded m d → 2 ^ 29 < unsigned_abs c → coord_of m d ≡ None
unfolding coord_of
coord_past m d c e far = past _ _ _ (subst (λ z. 2 ^ 29 < unsigned_abs z) e far)

-- any other is its nearest number
pub coord_value : (m : Measure) (d : Decimal) (c : ℤ) → c ≡ rounded m d → unsigned_abs c ≤ 2 ^ 29
    → coord_of m d ≡ Some c
unfolding coord_of
coord_value m d c e near = within _ _ _ (subst (λ z. unsigned_abs z ≤ 2 ^ 29) e near) ∙ ap Some (sym e)

-- a width past its limit
past_width : (below : Bool) (r : ℕ) → 2 ^ 28 < r → (if below || nat_lt (2 ^ 28) r then None else Some r) ≡ None
past_width true r h = refl
past_width false r h = grind (arith, nat_tests)

-- a width within its limit
within_width : (r s : ℕ) → s ≡ r → s ≤ 2 ^ 28 → (if nat_lt (2 ^ 28) r then None else Some r) ≡ Some s
within_width r s e h = grind (arith, nat_tests)

-- a decimal beyond all lengths is no width
pub extent_far : (m : Measure) (d : Decimal) → 1 ≤ m.per → IsFar m d → extent_of m d ≡ None
unfolding extent_of
extent_far m d some far = past_width (is_below_zero d) (raised_up m d)
    (let f : 2 ^ 30 < raised_up m d =
    roof_far (top_in m d) (bottom_in m d) (2 ^ 30) (bottom_some m d some) far.beyond in
    omega arith)

-- nor is one that is rounded up past the limit
pub extent_past : (m : Measure) (d : Decimal) (s : ℕ) → s ≡ raised_up m d → 2 ^ 28 < s → extent_of m d ≡ None
unfolding extent_of
extent_past m d s e far = past_width (is_below_zero d) (raised_up m d) (subst (λ r. 2 ^ 28 < r) e far)

-- any other that isn't below zero is what it is rounded up to
pub extent_value : (m : Measure) (d : Decimal) (s : ℕ) → is_below_zero d ≡ false → s ≡ raised_up m d → s ≤ 2 ^ 28
    → extent_of m d ≡ Some s
unfolding extent_of
extent_value m d s b e near = rw b (within_width (raised_up m d) s e near)
