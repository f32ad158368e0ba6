use Rattle.std.proofs.Common.{◌≡◌, ℕ, ℤ, pos, ◌<◌, ◌≤◌, ◌^◌, ◌*ℤ◌, to_z, of_z, w64, unsigned_abs, subst, sym}
use Rattle.std.proofs.Common.{ap, ap₂, ◌∙◌, arith}
use Rattle.std.proofs.lemmas.Int.{to_z-of_z, fits_signed_from_abs, ints}
use mir.Val.{SFits}
use Rattle.route_lattice.specs.Round.{ceil_div}
use Rattle.route_lattice.proofs.Floors.{ceil_small}
use Rattle.route_lattice.proofs.lines.multiple_from.Goals as goal

seen : (z : ℤ) → unsigned_abs z < 2 ^ 63 → to_z w64 (of_z w64 z) ≡ z
seen z h = to_z-of_z w64 z (fits_signed_from_abs w64 z h)

plain : (n : ℕ) → n ≤ 2 ^ 30 → to_z w64 n ≡ pos n
plain n h = omega (arith, ints, h)

product : (z q : ℤ) (n : ℕ) → unsigned_abs q ≤ 2 ^ 32 → q ≡ ceil_div (to_z w64 (of_z w64 z)) n
    → unsigned_abs z ≤ 2 ^ 29 → n ≤ 2 ^ 30
    → to_z w64 (of_z w64 q) *ℤ to_z w64 n ≡ ceil_div z n *ℤ pos n
product z q n few e h k =
    ap₂ (λ x y. x *ℤ y)
    (seen q (omega (arith, few)) ∙ e ∙ ap (λ x. ceil_div x n) (seen z (omega (arith, h)))) (plain n k)

pub quotient_up-requires-clause-small : goal.quotient_up-requires-clause-small
quotient_up-requires-clause-small c =
    let h = c.requires.small in
    subst (λ x. unsigned_abs x ≤ 2 ^ 31) (sym (seen c.args.z (omega (arith, h)))) (omega (arith, h))

pub overflow_cast-result : goal.overflow_cast-result
overflow_cast-result c = omega (arith, ints, c.requires.short)

pub overflow_mul-result : goal.overflow_mul-result
overflow_mul-result c =
    let n = c.args.n in let z = c.args.z in
    let small = ceil_small z n c.requires.some c.requires.short c.requires.small in
    subst (SFits w64)
    (sym
    (product z c.quotient_up.result n c.quotient_up.ensures.within c.quotient_up.ensures.value c.requires.small
    c.requires.short))
    (fits_signed_from_abs w64 (ceil_div z n *ℤ pos n) (omega (arith, small)))

pub returns-clause-value : goal.returns-clause-value
returns-clause-value c =
    let n = c.args.n in let z = c.args.z in
    let small = ceil_small z n c.requires.some c.requires.short c.requires.small in
    ap (λ x. to_z w64 (of_z w64 x))
    (product z c.quotient_up.result n c.quotient_up.ensures.within c.quotient_up.ensures.value c.requires.small
    c.requires.short)
    ∙ seen (ceil_div z n *ℤ pos n) (omega (arith, small))

pub returns-clause-within : goal.returns-clause-within
returns-clause-within c =
    subst (λ x. unsigned_abs x ≤ 2 ^ 31) (sym (returns-clause-value c))
    (ceil_small c.args.z c.args.n c.requires.some c.requires.short c.requires.small)
