use Rattle.std.proofs.Common.{◌≡◌, ℕ, ℤ, pos, ◌<◌, ◌≤◌, ◌^◌, ◌*◌, ◌+ℤ◌, ◌*ℤ◌, to_z, of_z, w64, unsigned_abs, subst, sym}
use Rattle.std.proofs.Common.{ap, ap₂, ◌∙◌, arith}
use Rattle.std.proofs.lemmas.Int.{to_z-of_z, fits_signed_from_abs, ints}
use mir.Val.{SFits}
use Rattle.route_lattice.specs.Round.{floor_div, nearest}
use Rattle.route_lattice.proofs.Floors.{nearest_small}
use Rattle.route_lattice.proofs.round.round_nearest.Goals as goal

seen : (z : ℤ) → unsigned_abs z < 2 ^ 63 → to_z w64 (of_z w64 z) ≡ z
seen z h = to_z-of_z w64 z (fits_signed_from_abs w64 z h)

plain : (n : ℕ) → n ≤ 2 ^ 29 → to_z w64 n ≡ pos n
plain n h = omega (arith, ints, h)

short : (m : ℕ) → m ≤ 2 ^ 32 → m < 2 ^ 63
short m h = omega (arith, h)

twice : (z : ℤ) → unsigned_abs z ≤ 2 ^ 29 → unsigned_abs (pos 2 *ℤ z) ≤ 2 ^ 30
twice z h = omega (arith, ints, h)

half_more : (z : ℤ) (u : ℕ) → unsigned_abs z ≤ 2 ^ 29 → u ≤ 2 ^ 29 → unsigned_abs (pos 2 *ℤ z +ℤ pos u) ≤ 2 ^ 32
half_more z u h k = omega (arith, ints, h, k)

module _ (z : ℤ) (u : ℕ) (near : unsigned_abs z ≤ 2 ^ 29) (fine : u ≤ 2 ^ 29) where
  same : to_z w64 (of_z w64 z) ≡ z
  same = seen z (omega (arith, near))

  doubled : to_z w64 (of_z w64 (pos 2 *ℤ to_z w64 (of_z w64 z))) ≡ pos 2 *ℤ z
  doubled = ap (λ x. to_z w64 (of_z w64 (pos 2 *ℤ x))) same ∙ seen (pos 2 *ℤ z) (omega (arith, twice z near))

  summed : to_z w64 (of_z w64 (pos 2 *ℤ to_z w64 (of_z w64 z))) +ℤ to_z w64 u ≡ pos 2 *ℤ z +ℤ pos u
  summed = ap₂ (λ x y. x +ℤ y) doubled (plain u fine)

  moved : to_z w64 (of_z w64 (to_z w64 (of_z w64 (pos 2 *ℤ to_z w64 (of_z w64 z))) +ℤ to_z w64 u))
      ≡ pos 2 *ℤ z +ℤ pos u
  moved = ap (λ x. to_z w64 (of_z w64 x)) summed
      ∙ seen (pos 2 *ℤ z +ℤ pos u) (short (unsigned_abs (pos 2 *ℤ z +ℤ pos u)) (half_more z u near fine))

  product : (q : ℤ) → unsigned_abs q ≤ 2 ^ 32
      → q ≡ floor_div (to_z w64 (of_z w64 (to_z w64 (of_z w64 (pos 2 *ℤ to_z w64 (of_z w64 z))) +ℤ to_z w64 u))) (2 * u)
      → to_z w64 (of_z w64 q) *ℤ to_z w64 u ≡ nearest u z
  product q h e =
      ap₂ (λ x y. x *ℤ y) (seen q (short (unsigned_abs q) h) ∙ e ∙ ap (λ x. floor_div x (2 * u)) moved) (plain u fine)

pub overflow_mul-z : goal.overflow_mul-z
overflow_mul-z c =
    let h = c.requires.small in
    subst (λ x. SFits w64 (pos 2 *ℤ x)) (sym (same c.args.z c.args.unit h c.requires.short))
    (fits_signed_from_abs w64 (pos 2 *ℤ c.args.z) (omega (arith, twice c.args.z h)))

pub overflow_cast-unit : goal.overflow_cast-unit
overflow_cast-unit c = omega (arith, ints, c.requires.short)

pub overflow_add-z : goal.overflow_add-z
overflow_add-z c =
    let z = c.args.z in let u = c.args.unit in
    subst (SFits w64) (sym (summed z u c.requires.small c.requires.short))
    (fits_signed_from_abs w64 (pos 2 *ℤ z +ℤ pos u)
    (short (unsigned_abs (pos 2 *ℤ z +ℤ pos u)) (half_more z u c.requires.small c.requires.short)))

pub overflow_mul-unit : goal.overflow_mul-unit
overflow_mul-unit c = omega (arith, c.requires.short)

pub quotient_down-requires-clause-small : goal.quotient_down-requires-clause-small
quotient_down-requires-clause-small c =
    let z = c.args.z in let u = c.args.unit in
    subst (λ x. unsigned_abs x ≤ 2 ^ 32) (sym (moved z u c.requires.small c.requires.short))
    (half_more z u c.requires.small c.requires.short)

pub quotient_down-requires-clause-some : goal.quotient_down-requires-clause-some
quotient_down-requires-clause-some c = omega (arith, c.requires.some)

pub quotient_down-requires-clause-short : goal.quotient_down-requires-clause-short
quotient_down-requires-clause-short c = omega (arith, c.requires.short)

pub overflow_cast-result : goal.overflow_cast-result
overflow_cast-result c = omega (arith, ints, c.requires.short)

pub overflow_mul-result : goal.overflow_mul-result
overflow_mul-result c =
    let z = c.args.z in let u = c.args.unit in
    let small = nearest_small u z c.requires.some c.requires.short c.requires.small in
    subst (SFits w64)
    (sym
    (product z u c.requires.small c.requires.short c.quotient_down.result c.quotient_down.ensures.within
    c.quotient_down.ensures.value))
    (fits_signed_from_abs w64 (nearest u z) (omega (arith, small)))

pub returns-clause-value : goal.returns-clause-value
returns-clause-value c =
    let z = c.args.z in let u = c.args.unit in
    let small = nearest_small u z c.requires.some c.requires.short c.requires.small in
    ap (λ x. to_z w64 (of_z w64 x))
    (product z u c.requires.small c.requires.short c.quotient_down.result c.quotient_down.ensures.within
    c.quotient_down.ensures.value)
    ∙ seen (nearest u z) (omega (arith, small))

pub returns-clause-within : goal.returns-clause-within
returns-clause-within c =
    subst (λ x. unsigned_abs x ≤ 2 ^ 30) (sym (returns-clause-value c))
    (nearest_small c.args.unit c.args.z c.requires.some c.requires.short c.requires.small)
