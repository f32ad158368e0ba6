-- Numbers beside powers of ten.
use Rattle.std.proofs.Common.{◌≡◌, ◌<◌, ◌≤◌, ◌+◌, ◌*◌, ◌^◌, ◌/◌, ◌%◌, ◌==◌, ◌↔◌, ◌⊎◌, inl, inr, ℕ, arith, lit<, IsTrue}
use Rattle.std.proofs.lemmas.Bool.Decides.{nat_tests}
use Rattle.std.proofs.Math.Nat.{pow-le-pow_right, mul-le-mul_left, mul-le-mul_right, div-lt_iff_lt-mul}
use Rattle.std.proofs.lemmas.Nat.{div-add-mod', mod_below}
use Rattle.dsn_units.specs.Halves.{IsHalves}

pub ten_power_le : (i j : ℕ) → i ≤ j → 10 ^ i ≤ 10 ^ j
ten_power_le i j h = pow-le-pow_right (let z : 0 < 10 = lit< tt in z) h

pub ten_power_pos : (i : ℕ) → 0 < 10 ^ i
ten_power_pos i = let h : 10 ^ 0 ≤ 10 ^ i = ten_power_le 0 i (omega arith) in omega arith

test_zero : (s : ℕ) → IsTrue (s == 0) → s ≡ 0
test_zero s t = grind (arith, nat_tests)

zero_passes : (s : ℕ) → s ≡ 0 → IsTrue (s == 0)
zero_passes s e = grind (arith, nat_tests)

-- a Bool that is a test for zero
zero_test : (s : ℕ) (P : Type 0) → (s ≡ 0 → P) → (P → s ≡ 0) → IsTrue (s == 0) ↔ P
zero_test s P f g = (λ t. f (test_zero s t), λ p. zero_passes s (g p))

-- twice a quotient, and twice its rest
halves_from : (n p q r h s : ℕ) → n ≡ q * p + r → 2 * r ≡ h * p + s → s < p → h ≤ 1 → q ≤ 2 ^ 48
    → IsHalves n p (2 * q + h) (s == 0)
halves_from n p q r h s e f below few near = record {
  low = omega arith;
  high = omega arith;
  whole = zero_test s _ (λ z. omega arith) (λ z. omega arith);
  small = omega arith;
}

pub halves_of : (n p : ℕ) → 0 < p → n / p ≤ 2 ^ 48 → IsHalves n p (2 * (n / p) + 2 * (n % p) / p) (2 * (n % p) % p == 0)
halves_of n p some near =
    halves_from n p (n / p) (n % p) (2 * (n % p) / p) (2 * (n % p) % p) (omega (arith, div-add-mod' n p))
    (omega (arith, div-add-mod' (2 * (n % p)) p))
    (mod_below _ p some) (few (mod_below n p some)) near
  where
    few : n % p < p → 2 * (n % p) / p ≤ 1
    few h = let k : 2 * (n % p) / p < 2 = (div-lt_iff_lt-mul some).1 (omega arith) in omega arith

-- a number far below its divisor
pub halves_none : (n k : ℕ) → n < 2 ^ 128 → 38 < k → IsHalves n (10 ^ k) 0 (n == 0)
halves_none n k low high = record {
  low = omega arith;
  high = omega (arith, ten_power_le 39 k (omega arith));
  whole = zero_test n _ (λ z. omega arith) (λ z. omega arith);
  small = omega arith;
}

-- a number with many zeros behind it is far
pub grown_far : (n k : ℕ) → 0 < n → (2 ^ 48 < n) ⊎ (14 < k) → 2 ^ 48 < n * 10 ^ k
grown_far n k some (inl h) = omega (arith, mul-le-mul_left n (ten_power_le 0 k (omega arith)))
grown_far n k some (inr h) =
    omega (
      arith,
      mul-le-mul_left n (ten_power_le 15 k (omega arith)),
      mul-le-mul_right (10 ^ 15) (let q : 1 ≤ n = omega arith in q),
    )
