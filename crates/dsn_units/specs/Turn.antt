-- Turns by an angle, in whole numbers.
use Rattle.std.specs.Prelude.{◌+◌, ◌*◌, ◌/◌, ◌%◌, ◌==◌, ℕ, Bool, zero, suc, ℤ, pos, neg_ℤ, ◌+ℤ◌, ◌-ℤ◌, ◌*ℤ◌, int_lt}
use Rattle.std.specs.Prelude.{if◌then◌else◌, unsigned_abs}
use Rattle.geo_kernel.specs.declared.point.Point.{Point}
use Rattle.dsn_units.specs.declared.angle.Angle.{Angle}
use Rattle.dsn_units.specs.Length.{nearest}

-- the one of sines and cosines
abbrev pub one : ℕ
one = 1000000000000

-- n * t, in parts of one, rounded down
abbrev pub times : ℕ → ℕ → ℕ
times t n = n * t / one

-- The terms of a list that begins with `first`: t^2 in parts of one, over (2k+1)(2k+2) where s is 0 and (2k+2)(2k+3)
-- where it is 1.
unfoldable pub term : ℕ → ℕ → ℕ → ℕ → ℕ
term first t s zero = first
term first t s (suc k) = times t (times t (term first t s k)) / ((2 * k + 1 + s) * (2 * k + 2 + s))

-- the sum with its term of number k, which counts below zero where k is odd
abbrev pub with_term : ℤ → ℕ → ℕ → ℤ
with_term sum k n = if k % 2 == 0 then sum +ℤ pos n else sum -ℤ pos n

-- the alternating sum of the first n terms
unfoldable pub alternating : (ℕ → ℕ) → ℕ → ℤ
alternating f zero = pos 0
alternating f (suc k) = with_term (alternating f k) k (f k)

abbrev pub cosine : ℕ → ℤ
cosine t = alternating (term one t 0) 8

abbrev pub sine : ℕ → ℤ
sine t = alternating (term t t 1) 8

-- the nearest quarter turn, and the rest, from -45 to 45 degrees
abbrev pub quarter : Angle → ℕ
quarter a = (a.microdegrees + 45000000) / 90000000

abbrev pub rest : Angle → ℤ
rest a = pos a.microdegrees -ℤ pos (90000000 * quarter a)

-- the size of the rest as a length of arc, in parts of one
abbrev pub arc : Angle → ℕ
arc a = unsigned_abs (rest a) * 17453292520 / 1000000

-- the sine with the sign of the rest
abbrev pub signed_sine : Bool → ℕ → ℤ
signed_sine negative t = if negative then neg_ℤ (sine t) else sine t

-- p turned by the angle with this cosine and sine
abbrev pub slanted : ℤ → ℤ → Point → Point
slanted c s p = record { x = nearest (p.x *ℤ c -ℤ p.y *ℤ s) one; y = nearest (p.x *ℤ s +ℤ p.y *ℤ c) one }

-- p after so many exact quarter turns
abbrev pub quarters : ℕ → Point → Point
quarters zero p = p
quarters (suc n) p = let r = quarters n p in record { x = neg_ℤ r.y; y = r.x }

-- p turned by the rest of the angle, and then by its quarter turns
abbrev pub turned : Angle → Point → Point
turned a p = quarters (quarter a) (slanted (cosine (arc a)) (signed_sine (int_lt (rest a) (pos 0)) (arc a)) p)
