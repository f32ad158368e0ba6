use Rattle.std.proofs.Common.{◌≡◌, ℕ, ℤ, pos, ◌<◌, ◌≤◌, ◌^◌, ◌*ℤ◌, to_z, of_z, w64, unsigned_abs, subst, sym, lit<}
use Rattle.std.proofs.Common.{ap, ap₂, ◌∙◌, arith}
use Rattle.std.proofs.lemmas.Int.{to_z-of_z, fits_signed_mul, ints}
use mir.Val.{SFits}
use Rattle.geo_kernel.proofs.Bounds.{unseen}
use Rattle.route_lattice.specs.Round.{floor_div}
use Rattle.route_lattice.proofs.round.round_down.Goals as goal

-- the unit is seen as it is
plain : (n : ℕ) → n ≤ 2 ^ 29 → to_z w64 n ≡ pos n
plain n h = omega (arith, ints, h)

-- numbers within 2^32 are far within 64 bits
far_below : (z : ℤ) → unsigned_abs z ≤ 2 ^ 32 → unsigned_abs z < 2 ^ 63
far_below z h = omega (arith, h)

-- the code's product is that of the quotient
product : (z q : ℤ) (n : ℕ) → unsigned_abs q ≤ 2 ^ 32 → q ≡ floor_div (to_z w64 (of_z w64 z)) n
    → unsigned_abs z ≤ 2 ^ 32 → n ≤ 2 ^ 29 → to_z w64 (of_z w64 q) *ℤ to_z w64 n ≡ q *ℤ pos n
product z q n few e h k = ap₂ (λ x y. x *ℤ y) (unseen q (far_below q few)) (plain n k)

-- the quotient is that of the number itself
quotient : (z q : ℤ) (n : ℕ) → q ≡ floor_div (to_z w64 (of_z w64 z)) n → unsigned_abs z ≤ 2 ^ 32 → q ≡ floor_div z n
quotient z q n e h = e ∙ ap (λ x. floor_div x n) (unseen z (far_below z h))

-- its product with the unit fits
fits : (q : ℤ) (n : ℕ) → unsigned_abs q ≤ 2 ^ 32 → n ≤ 2 ^ 29 → SFits w64 (q *ℤ pos n)
fits q n h k = fits_signed_mul w64 q (pos n) (2 ^ 32) (2 ^ 29) h k (lit< tt)

pub quotient_down-requires-clause-small : goal.quotient_down-requires-clause-small
quotient_down-requires-clause-small c =
    subst (λ x. unsigned_abs x ≤ 2 ^ 32) (sym (unseen c.args.z (far_below c.args.z c.requires.small))) c.requires.small

pub overflow_cast-result : goal.overflow_cast-result
overflow_cast-result c = omega (arith, ints, c.requires.short)

pub overflow_mul-result : goal.overflow_mul-result
overflow_mul-result c =
    let q = c.quotient_down in
    subst (SFits w64)
    (sym (product c.args.z q.result c.args.unit q.ensures.within q.ensures.value c.requires.small c.requires.short))
    (fits q.result c.args.unit q.ensures.within c.requires.short)

pub returns : goal.returns
returns c =
    let q = c.quotient_down in
    ap (λ x. to_z w64 (of_z w64 x))
    (product c.args.z q.result c.args.unit q.ensures.within q.ensures.value c.requires.small c.requires.short)
    ∙ to_z-of_z w64 (q.result *ℤ pos c.args.unit) (fits q.result c.args.unit q.ensures.within c.requires.short)
    ∙ ap (λ x. x *ℤ pos c.args.unit) (quotient c.args.z q.result c.args.unit q.ensures.value c.requires.small)
