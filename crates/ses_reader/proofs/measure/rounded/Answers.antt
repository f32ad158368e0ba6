use Rattle.std.proofs.Common.{◌≡◌, ℕ, ℤ, pos, ◌<◌, ◌^◌, ◌*◌, ◌+ℤ◌, ◌*ℤ◌, to_z, unsigned_abs, subst, sym}
use Rattle.std.proofs.Common.{ap, ap₂, ◌∙◌, arith, rules}
use Rattle.std.specs.Int.{int_div_euclid}
use Rattle.std.proofs.lemmas.Int.{fits_signed_from_abs, ints, to_z-of_z}
use mir.Syntax.{w128}
use mir.Val.{SFits}
use Rattle.geo_kernel.proofs.Bounds.{seen_wide, unseen_wide}
use Rattle.ses_reader.proofs.measure.rounded.Goals as goal

-- a divisor is seen as it is
plain : (n : ℕ) → n < 2 ^ 124 → to_z w128 n ≡ pos n
plain n h = omega (arith, ints, h)

-- twice a number of 90 bits
twice : (z : ℤ) → unsigned_abs z < 2 ^ 90 → unsigned_abs (pos 2 *ℤ z) < 2 ^ 91
twice z h = omega (arith, ints, h)

-- and a divisor of 124 bits behind it
half_more : (z : ℤ) (u : ℕ) → unsigned_abs z < 2 ^ 90 → u < 2 ^ 124 → unsigned_abs (pos 2 *ℤ z +ℤ pos u) < 2 ^ 125
half_more z u h k = omega (arith, ints, h, k)

-- numbers of 125 bits are seen as they are
far_below : (n : ℕ) → n < 2 ^ 125 → n < 2 ^ 127
far_below n h = omega (arith, h)

module _ (z : ℤ) (u : ℕ) (near : unsigned_abs z < 2 ^ 90) (fine : u < 2 ^ 124) where
  -- the number itself
  same : seen_wide z ≡ z
  same = unseen_wide z (omega (arith, near))

  -- twice the number
  doubled : seen_wide (pos 2 *ℤ seen_wide z) ≡ pos 2 *ℤ z
  doubled = ap (λ x. seen_wide (pos 2 *ℤ x)) same ∙ unseen_wide (pos 2 *ℤ z) (omega (arith, twice z near))

  -- the sum of that and the divisor
  summed : seen_wide (pos 2 *ℤ seen_wide z) +ℤ to_z w128 u ≡ pos 2 *ℤ z +ℤ pos u
  summed = ap₂ (λ x y. x +ℤ y) doubled (plain u fine)

  -- the sum once it is kept
  moved : seen_wide (seen_wide (pos 2 *ℤ seen_wide z) +ℤ to_z w128 u) ≡ pos 2 *ℤ z +ℤ pos u
  moved = ap seen_wide summed ∙ unseen_wide (pos 2 *ℤ z +ℤ pos u) (far_below _ (half_more z u near fine))

  -- twice the divisor
  divided : seen_wide (pos 2 *ℤ to_z w128 u) ≡ pos (2 * u)
  divided = ap (λ x. seen_wide (pos 2 *ℤ x)) (plain u fine)
      ∙ unseen_wide (pos (2 * u)) (far_below _ (omega (arith, fine)))

pub overflow_cast-below : goal.overflow_cast-below
overflow_cast-below c = omega (arith, ints, c.requires.below)

pub overflow_mul-above : goal.overflow_mul-above
overflow_mul-above c =
    subst (λ x. SFits w128 (pos 2 *ℤ x)) (sym (same c.args.above c.args.below c.requires.above c.requires.below))
    (fits_signed_from_abs w128 (pos 2 *ℤ c.args.above) (omega (arith, twice c.args.above c.requires.above)))

pub overflow_add-above : goal.overflow_add-above
overflow_add-above c =
    let z = c.args.above in let u = c.args.below in
    subst (SFits w128) (sym (summed z u c.requires.above c.requires.below))
    (fits_signed_from_abs w128 (pos 2 *ℤ z +ℤ pos u) (far_below _ (half_more z u c.requires.above c.requires.below)))

pub overflow_mul-below : goal.overflow_mul-below
overflow_mul-below c =
    subst (λ x. SFits w128 (pos 2 *ℤ x)) (sym (plain c.args.below c.requires.below))
    (fits_signed_from_abs w128 (pos (2 * c.args.below)) (far_below _ (omega (arith, c.requires.below))))

pub returns : goal.returns
returns c =
    let z = c.args.above in let u = c.args.below in
    let fits : SFits w128 c.div_euclid.result = search rules in
    to_z-of_z w128 c.div_euclid.result fits ∙ c.div_euclid.ensures
    ∙ ap₂ int_div_euclid (moved z u c.requires.above c.requires.below) (divided z u c.requires.above c.requires.below)
