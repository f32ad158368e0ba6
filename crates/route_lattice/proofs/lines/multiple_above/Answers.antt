use Rattle.std.proofs.Common.{◌≡◌, ℕ, ℤ, pos, ◌<◌, ◌≤◌, ◌^◌, ◌+ℤ◌, ◌*ℤ◌, to_z, of_z, w64, unsigned_abs, subst, sym}
use Rattle.std.proofs.Common.{ap, ap₂, ◌∙◌, arith}
use Rattle.std.proofs.lemmas.Int.{to_z-of_z, fits_signed_from_abs, ints}
use mir.Val.{SFits}
use Rattle.route_lattice.specs.Round.{floor_div}
use Rattle.route_lattice.proofs.Floors.{above_small}
use Rattle.route_lattice.proofs.lines.multiple_above.Goals as goal

seen : (z : ℤ) → unsigned_abs z < 2 ^ 63 → to_z w64 (of_z w64 z) ≡ z
seen z h = to_z-of_z w64 z (fits_signed_from_abs w64 z h)

plain : (n : ℕ) → n ≤ 2 ^ 30 → to_z w64 n ≡ pos n
plain n h = omega (arith, ints, h)

short : (m : ℕ) → m ≤ 2 ^ 32 → m < 2 ^ 63
short m h = omega (arith, h)

next_short : (q : ℤ) → unsigned_abs q ≤ 2 ^ 32 → unsigned_abs (q +ℤ pos 1) < 2 ^ 63
next_short q h = omega (arith, ints, h)

module _ (z q : ℤ) (n : ℕ) (few : unsigned_abs q ≤ 2 ^ 32) where
  next : to_z w64 (of_z w64 (to_z w64 (of_z w64 q) +ℤ pos 1)) ≡ q +ℤ pos 1
  next = ap (λ x. to_z w64 (of_z w64 (x +ℤ pos 1))) (seen q (short (unsigned_abs q) few))
      ∙ seen (q +ℤ pos 1) (next_short q few)

  product : q ≡ floor_div (to_z w64 (of_z w64 z)) n → unsigned_abs z ≤ 2 ^ 29 → n ≤ 2 ^ 30
      → to_z w64 (of_z w64 (to_z w64 (of_z w64 q) +ℤ pos 1)) *ℤ to_z w64 n ≡ (floor_div z n +ℤ pos 1) *ℤ pos n
  product e h k =
      ap₂ (λ x y. x *ℤ y) (next ∙ ap (λ x. x +ℤ pos 1) (e ∙ ap (λ x. floor_div x n) (seen z (omega (arith, h)))))
      (plain n k)

pub quotient_down-requires-clause-small : goal.quotient_down-requires-clause-small
quotient_down-requires-clause-small c =
    let h = c.requires.small in
    subst (λ x. unsigned_abs x ≤ 2 ^ 32) (sym (seen c.args.z (omega (arith, h)))) (omega (arith, h))

pub overflow_add-result : goal.overflow_add-result
overflow_add-result c =
    let q = c.quotient_down.result in
    let h = c.quotient_down.ensures.within in
    subst (λ x. SFits w64 (x +ℤ pos 1)) (sym (seen q (short (unsigned_abs q) h)))
    (fits_signed_from_abs w64 (q +ℤ pos 1) (next_short q h))

pub overflow_cast-result : goal.overflow_cast-result
overflow_cast-result c = omega (arith, ints, c.requires.short)

pub overflow_mul-result : goal.overflow_mul-result
overflow_mul-result c =
    let n = c.args.n in let z = c.args.z in
    let small = above_small z n c.requires.some c.requires.short c.requires.small in
    subst (SFits w64)
    (sym
    (product z c.quotient_down.result n c.quotient_down.ensures.within c.quotient_down.ensures.value c.requires.small
    c.requires.short))
    (fits_signed_from_abs w64 ((floor_div z n +ℤ pos 1) *ℤ pos n) (omega (arith, small)))

pub returns-clause-value : goal.returns-clause-value
returns-clause-value c =
    let n = c.args.n in let z = c.args.z in
    let small = above_small z n c.requires.some c.requires.short c.requires.small in
    ap (λ x. to_z w64 (of_z w64 x))
    (product z c.quotient_down.result n c.quotient_down.ensures.within c.quotient_down.ensures.value c.requires.small
    c.requires.short)
    ∙ seen ((floor_div z n +ℤ pos 1) *ℤ pos n) (omega (arith, small))

pub returns-clause-within : goal.returns-clause-within
returns-clause-within c =
    subst (λ x. unsigned_abs x ≤ 2 ^ 31) (sym (returns-clause-value c))
    (above_small c.args.z c.args.n c.requires.some c.requires.short c.requires.small)
