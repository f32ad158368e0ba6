-- A turned point is at most twice as far along each axis.
use Rattle.std.proofs.Common.{◌<◌, ◌≤◌, ◌+◌, ◌*◌, ◌/◌, ℕ, ℤ, Bool, true, false, zero, suc, pos, negsuc, neg_ℤ, ◌+ℤ◌}
use Rattle.std.proofs.Common.{◌-ℤ◌, ◌*ℤ◌, ◌≤ℤ◌, arith}
use Rattle.std.specs.Prelude.{unsigned_abs, int_lt}
use Rattle.std.specs.Int.{int_div_euclid}
use Rattle.std.proofs.Math.Nat.{div-le_self, div-le_of_le-mul, mul-le-mul, mul-le-mul_left, div-lt_iff_lt-mul}
use Rattle.std.proofs.lemmas.Int.{ints, unsigned_abs-mul}
use Rattle.geo_kernel.specs.declared.point.Point.{Point}
use Rattle.geo_kernel.specs.Plane.{IsWithin}
use Rattle.dsn_units.specs.declared.angle.Angle.{Angle}
use Rattle.dsn_units.specs.Length.{nearest}
use Rattle.dsn_units.specs.Turn.{one, times, term, alternating, cosine, signed_sine, quarter, rest, arc, slanted}
use Rattle.dsn_units.specs.Turn.{quarters, turned}

-- ---- the two series
times_small : (t n : ℕ) → t ≤ one → times t n ≤ n
times_small t n h = div-le_of_le-mul one (omega (arith, mul-le-mul_left n h))

term_falls : (first t s k : ℕ) → t ≤ one → term first t s (suc k) ≤ term first t s k
unfolding term
term_falls first t s k h =
    let n = term first t s k in
    omega (
      arith,
      div-le_self (times t (times t n)) ((2 * k + 1 + s) * (2 * k + 2 + s)),
      times_small t (times t n) h,
      times_small t n h,
    )

eight : (a b c d e f g h : ℕ) → b ≤ a → c ≤ b → d ≤ c → e ≤ d → f ≤ e → g ≤ f → h ≤ g
    → unsigned_abs ((((((((pos 0 +ℤ pos a) -ℤ pos b) +ℤ pos c) -ℤ pos d) +ℤ pos e) -ℤ pos f) +ℤ pos g) -ℤ pos h) ≤ a
eight a b c d e f g h p1 p2 p3 p4 p5 p6 p7 = omega (arith, ints)

series_small : (first t s : ℕ) → t ≤ one → unsigned_abs (alternating (term first t s) 8) ≤ first
unfolding alternating term
series_small first t s h =
    eight first _ _ _ _ _ _ _ (term_falls first t s 0 h) (term_falls first t s 1 h) (term_falls first t s 2 h)
    (term_falls first t s 3 h) (term_falls first t s 4 h) (term_falls first t s 5 h) (term_falls first t s 6 h)

sine_small : (negative : Bool) (t : ℕ) → t ≤ one → unsigned_abs (signed_sine negative t) ≤ one
sine_small true t h = let e = series_small t t 1 h in omega (arith, ints)
sine_small false t h = let e = series_small t t 1 h in omega arith

arc_small : (a : Angle) → arc a ≤ one
arc_small a = omega (arith, ints)

-- ---- turned points
product_small : (z c : ℤ) (m : ℕ) → unsigned_abs z ≤ m → unsigned_abs c ≤ one → unsigned_abs (z *ℤ c) ≤ m * one
product_small z c m h k = rw (unsigned_abs-mul z c) (mul-le-mul h k)

floor_small : (w : ℤ) (m : ℕ) → w ≤ℤ pos (m * (2 * one) + one) → neg_ℤ (pos (m * (2 * one))) ≤ℤ w
    → unsigned_abs (int_div_euclid w (pos (2 * one))) ≤ m
floor_small (pos n) m up down =
    let e : n / (2 * one) < m + 1 = (div-lt_iff_lt-mul {k = 2 * one} {x = n} {y = m + 1} (omega arith)).1
    (omega (arith, ints)) in omega arith
floor_small (negsuc n) m up down =
    let e : n / (2 * one) < m =
    (div-lt_iff_lt-mul {k = 2 * one} {x = n} {y = m} (omega arith)).1 (omega (arith, ints)) in omega arith

nearest_small : (z : ℤ) (m : ℕ) → unsigned_abs z ≤ m * one → unsigned_abs (nearest z one) ≤ m
nearest_small z m h = floor_small ((pos 2 *ℤ z) +ℤ pos one) m (omega (arith, ints)) (omega (arith, ints))

slanted_small : (c s : ℤ) (p : Point) (m : ℕ) → unsigned_abs c ≤ one → unsigned_abs s ≤ one → IsWithin m p
    → IsWithin (2 * m) (slanted c s p)
slanted_small c s p m hc hs w =
    let a = product_small p.x c m w.0 hc in
    let b = product_small p.y s m w.1 hs in
    let d = product_small p.x s m w.0 hs in
    let e = product_small p.y c m w.1 hc in (
      nearest_small (p.x *ℤ c -ℤ p.y *ℤ s) (2 * m) (omega (arith, ints, a, b)),
      nearest_small (p.x *ℤ s +ℤ p.y *ℤ c) (2 * m) (omega (arith, ints, d, e)),
    )

quarters_small : (n m : ℕ) (p : Point) → IsWithin m p → IsWithin m (quarters n p)
quarters_small zero m p w = w
quarters_small (suc n) m p w = let v = quarters_small n m p w in (omega (arith, ints, v.1), v.0)

pub turned_small : (a : Angle) (p : Point) (m : ℕ) → IsWithin m p → IsWithin (2 * m) (turned a p)
turned_small a p m w =
    quarters_small (quarter a) (2 * m) (slanted (cosine (arc a)) (signed_sine (int_lt (rest a) (pos 0)) (arc a)) p)
    (slanted_small (cosine (arc a)) (signed_sine (int_lt (rest a) (pos 0)) (arc a)) p m
    (series_small one (arc a) 0 (arc_small a)) (sine_small (int_lt (rest a) (pos 0)) (arc a) (arc_small a)) w)
