-- Terms, sums and products of a turn.
use Rattle.std.proofs.Common.{◌≡◌, ◌<◌, ◌≤◌, ◌+◌, ◌*◌, ◌/◌, ◌^◌, ◌∙◌, ap, ap₂, sym, subst, ℕ, ℤ, Bool, true, false, suc}
use Rattle.std.proofs.Common.{pos, negsuc, neg_ℤ, ◌+ℤ◌, ◌-ℤ◌, ◌*ℤ◌, ◌≤ℤ◌, ◌<ℤ◌, arith, refl, add-one, w64, to_z, of_z}
use Rattle.std.proofs.Common.{FitsSigned, mul-le-mul}
use Rattle.std.specs.Prelude.{unsigned_abs, int_lt}
use Rattle.std.specs.Int.{w128, int_div_euclid}
use Rattle.std.proofs.lemmas.Int.{ints, to_z-of_z, fits_signed_from_abs, unsigned_abs-mul}
use Rattle.std.proofs.lemmas.Bool.Decides.{nat_tests}
use Rattle.geo_kernel.specs.declared.point.Point.{Point}
use Rattle.dsn_units.specs.declared.angle.Angle.{Angle}
use Rattle.dsn_units.specs.Length.{nearest}
use Rattle.dsn_units.specs.Turn.{one, times, term, with_term, alternating, cosine, signed_sine, quarter, rest, arc}
use Rattle.dsn_units.specs.Turn.{slanted, quarters, turned}
use Rattle.geo_kernel.proofs.Bounds.{widened, wide_fits, wide_value}
use Rattle.dsn_units.proofs.Floors.{floor_is}

pub first_term : (first t s : ℕ) → term first t s 0 ≡ first
unfolding term
first_term first t s = refl

next_term : (first t s k n : ℕ) → n ≡ term first t s k → times t (times t n) / ((2 * k + 1 + s) * (2 * k + 2 + s))
    ≡ term first t s (suc k)
unfolding term
next_term first t s k n e = rw e

pub term_more : (first t s k n : ℕ) → n ≡ term first t s k → times t (times t n) / ((2 * k + 1 + s) * (2 * k + 2 + s))
    ≡ term first t s (k + 1)
term_more first t s k n e = let next = next_term first t s k n e in
    subst (λ j. times t (times t n) / ((2 * k + 1 + s) * (2 * k + 2 + s)) ≡ term first t s j) (sym (add-one k)) next

pub no_terms : (f : ℕ → ℕ) → alternating f 0 ≡ pos 0
unfolding alternating
no_terms f = refl

next_sum : (f : ℕ → ℕ) (k n : ℕ) (sum : ℤ) → n ≡ f k → sum ≡ alternating f k → with_term sum k n ≡ alternating f (suc k)
unfolding alternating
next_sum f k n sum e g = rw (e, g)

pub sum_more : (f : ℕ → ℕ) (k n : ℕ) (sum : ℤ) → n ≡ f k → sum ≡ alternating f k
    → with_term sum k n ≡ alternating f (k + 1)
sum_more f k n sum e g = let next = next_sum f k n sum e g in
    subst (λ j. with_term sum k n ≡ alternating f j) (sym (add-one k)) next

pub sum_small : (sum : ℤ) (k n m : ℕ) → unsigned_abs sum ≤ m → unsigned_abs (with_term sum k n) ≤ m + n
sum_small sum k n m h = grind (arith, nat_tests, ints)

abbrev pub seen : ℤ → ℤ
seen z = to_z w64 (of_z w64 z)

abbrev pub seen_wide : ℤ → ℤ
seen_wide z = to_z w128 (of_z w128 z)

pub unseen : (z : ℤ) → unsigned_abs z < 2 ^ 63 → seen z ≡ z
unseen z h = to_z-of_z w64 z (fits_signed_from_abs w64 z h)

pub seen_small : (z : ℤ) (m : ℕ) → unsigned_abs z ≤ m → m < 2 ^ 63 → unsigned_abs (seen z) ≤ m
seen_small z m h k = subst (λ y. unsigned_abs y ≤ m) (sym (unseen z (omega arith))) h

-- two products that are added or subtracted
pub difference_value : (a b p q : ℤ) → unsigned_abs a ≤ 2 ^ 74 → unsigned_abs b ≤ 2 ^ 74 → a ≡ p → b ≡ q
    → seen_wide (seen_wide a -ℤ seen_wide b) ≡ p -ℤ q
difference_value a b p q h k e f = let g : seen_wide (seen_wide a -ℤ seen_wide b) ≡ a -ℤ b = omega (arith, ints) in
    g ∙ ap₂ (λ x y. x -ℤ y) e f

pub sum_value : (a b p q : ℤ) → unsigned_abs a ≤ 2 ^ 74 → unsigned_abs b ≤ 2 ^ 74 → a ≡ p → b ≡ q
    → seen_wide (seen_wide a +ℤ seen_wide b) ≡ p +ℤ q
sum_value a b p q h k e f = let g : seen_wide (seen_wide a +ℤ seen_wide b) ≡ a +ℤ b = omega (arith, ints) in
    g ∙ ap₂ (λ x y. x +ℤ y) e f

pub difference_small : (a b : ℤ) → unsigned_abs a ≤ 2 ^ 74 → unsigned_abs b ≤ 2 ^ 74
    → unsigned_abs (seen_wide (seen_wide a -ℤ seen_wide b)) ≤ 2 ^ 75
difference_small a b h k = omega (arith, ints)

pub sum_near : (a b : ℤ) → unsigned_abs a ≤ 2 ^ 74 → unsigned_abs b ≤ 2 ^ 74
    → unsigned_abs (seen_wide (seen_wide a +ℤ seen_wide b)) ≤ 2 ^ 75
sum_near a b h k = omega (arith, ints)

pub difference_fits : (a b : ℤ) → unsigned_abs a ≤ 2 ^ 74 → unsigned_abs b ≤ 2 ^ 74
    → FitsSigned w128 (seen_wide a -ℤ seen_wide b)
difference_fits a b h k = fits_signed_from_abs w128 (seen_wide a -ℤ seen_wide b) (omega (arith, ints))

pub sum_fits : (a b : ℤ) → unsigned_abs a ≤ 2 ^ 74 → unsigned_abs b ≤ 2 ^ 74
    → FitsSigned w128 (seen_wide a +ℤ seen_wide b)
sum_fits a b h k = fits_signed_from_abs w128 (seen_wide a +ℤ seen_wide b) (omega (arith, ints))

pub product_is : (x c r : ℤ) → unsigned_abs x ≤ 2 ^ 31 → unsigned_abs c ≤ 8000000000000 → r ≡ seen x *ℤ seen c
    → r ≡ x *ℤ c
product_is x c r h k e = e ∙ ap₂ (λ a b. a *ℤ b) (unseen x (omega arith)) (unseen c (omega arith))

-- the product of a coordinate and a cosine or sine, as the code computes it
module _ (a b : ℤ) (h : unsigned_abs a ≤ 2 ^ 31) (k : unsigned_abs b ≤ 8000000000000) where
  far : unsigned_abs a ≤ 2 ^ 61
  far = omega arith

  long : unsigned_abs b ≤ 2 ^ 61
  long = omega arith

  pub product_fits : FitsSigned w128 (seen_wide (seen a) *ℤ seen_wide (seen b))
  product_fits = rw (widened a a far refl, widened b b long refl) (wide_fits a b far long)

  pub product_value : seen_wide (seen_wide (seen a) *ℤ seen_wide (seen b)) ≡ a *ℤ b
  product_value = wide_value a b far long

  pub product_within : (r : ℤ) → r ≡ a *ℤ b → unsigned_abs r ≤ 2 ^ 74
  product_within r e =
      let f = ap unsigned_abs e in
      let g = unsigned_abs-mul a b in
      let m = mul-le-mul h k in
      omega arith

-- twice a number of parts and one more, as the code computes it
abbrev doubled_up : ℤ → ℤ
doubled_up p = seen_wide (seen_wide (pos 2 *ℤ seen_wide p) +ℤ pos one)

half_up : (p : ℤ) → unsigned_abs p ≤ 2 ^ 75 → doubled_up p ≡ (pos 2 *ℤ p) +ℤ pos one
half_up p h = omega (arith, ints)

euclid_small : (z : ℤ) → unsigned_abs z ≤ 2 ^ 76 + one → unsigned_abs (int_div_euclid z (pos (2 * one))) ≤ 2 ^ 36
euclid_small (pos n) h = omega arith
euclid_small (negsuc n) h = omega arith

nearest_small : (p : ℤ) → unsigned_abs p ≤ 2 ^ 75 → unsigned_abs (nearest p one) ≤ 2 ^ 36
nearest_small p h = euclid_small ((pos 2 *ℤ p) +ℤ pos one) (omega (arith, ints))

-- the nearest whole number of parts, as the code computes it
module _ (p r : ℤ) (h : unsigned_abs p ≤ 2 ^ 75) (e : r ≡ int_div_euclid (doubled_up p) (pos (2 * one))) where
  is_nearest : r ≡ nearest p one
  is_nearest = e ∙ ap (λ z. int_div_euclid z (pos (2 * one))) (half_up p h)

  small : unsigned_abs r ≤ 2 ^ 36
  small = subst (λ z. unsigned_abs z ≤ 2 ^ 36) (sym is_nearest) (nearest_small p h)

  fits : FitsSigned w64 r
  fits = let k = small in fits_signed_from_abs w64 r (omega arith)

  seen_once : seen_wide r ≡ r
  seen_once = let k = small in to_z-of_z w128 r (fits_signed_from_abs w128 r (omega arith))

  pub rounded_fits : FitsSigned w64 (seen_wide r)
  rounded_fits = subst (FitsSigned w64) (sym seen_once) fits

  seen_twice : seen (seen_wide r) ≡ r
  seen_twice = ap seen seen_once ∙ to_z-of_z w64 r fits

  pub rounded_value : seen (seen_wide r) ≡ nearest p one
  rounded_value = seen_twice ∙ is_nearest

  pub rounded_within : unsigned_abs (seen (seen_wide r)) ≤ 2 ^ 36
  rounded_within = subst (λ z. unsigned_abs z ≤ 2 ^ 36) (sym seen_twice) small

-- no arc turns nothing
no_cosine : cosine 0 ≡ pos one
unfolding alternating term
no_cosine = refl

no_sine : (negative : Bool) → signed_sine negative 0 ≡ pos 0
unfolding alternating term
no_sine true = refl
no_sine false = refl

nearest_whole : (z n : ℤ) → n ≡ z *ℤ pos one → nearest n one ≡ z
nearest_whole z n e =
    floor_is _ (2 * one) z (
      let low : (z *ℤ pos (2 * one)) ≤ℤ ((pos 2 *ℤ n) +ℤ pos one) = omega (arith, ints, e) in
          low,
      let high : ((pos 2 *ℤ n) +ℤ pos one) <ℤ ((z *ℤ pos (2 * one)) +ℤ pos (2 * one)) = omega (arith, ints, e) in
          high,
    )

not_slanted : (p : Point) → slanted (pos one) (pos 0) p ≡ p
not_slanted p =
    ap₂ (λ x y. let q : Point = record { x = x; y = y } in q)
    (nearest_whole p.x (p.x *ℤ pos one -ℤ p.y *ℤ pos 0) (omega (arith, ints)))
    (nearest_whole p.y (p.x *ℤ pos 0 +ℤ p.y *ℤ pos one) (omega (arith, ints)))

pub no_arc : (a : Angle) (p : Point) → arc a ≡ 0 → turned a p ≡ quarters (quarter a) p
no_arc a p e =
    ap (quarters (quarter a))
    (ap₂ (λ c s. slanted c s p) (ap cosine e ∙ no_cosine) (ap (signed_sine (int_lt (rest a) (pos 0))) e ∙ no_sine _)
    ∙ not_slanted p)

-- the quarter turns of a whole number of them
pub whole_quarters : (a : Angle) (n : ℕ) (p : Point) → a.microdegrees ≡ 90000000 * n → turned a p ≡ quarters n p
whole_quarters a n p e =
    let q : quarter a ≡ n = omega arith in
    let r : rest a ≡ pos 0 = omega (arith, ints) in
    no_arc a p (ap (λ z. unsigned_abs z * 17453292520 / 1000000) r) ∙ ap (λ m. quarters m p) q

pub four_quarters : (p : Point) → quarters 4 p ≡ p
four_quarters p = ap₂ (λ x y. let q : Point = record { x = x; y = y } in q) (twice p.x) (twice p.y)
  where
    twice : (z : ℤ) → neg_ℤ (neg_ℤ z) ≡ z
    twice z = omega (arith, ints)
