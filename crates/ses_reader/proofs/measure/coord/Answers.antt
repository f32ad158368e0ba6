use Rattle.std.proofs.Common.{◌≡◌, ◌<◌, ◌≤◌, ◌^◌, ◌∙◌, ℤ, Some, ap, subst, sym, arith, rules}
use Rattle.std.specs.Prelude.{unsigned_abs}
use Rattle.std.proofs.lemmas.Int.{to_z-of_z, fits_signed_from_abs}
use mir.Syntax.{w64, w128}
use mir.Val.{SFits}
use Rattle.geo_kernel.proofs.Bounds.{seen, seen_wide, unseen}
use Rattle.ses_reader.proofs.Fractions.{coord_far, coord_past, coord_value}
use Rattle.ses_reader.proofs.measure.coord.Goals as goal

-- a number within the limit of coordinates fits 64 bits
far_below : (z : ℤ) → unsigned_abs z ≤ 2 ^ 29 → unsigned_abs z < 2 ^ 63
far_below z h = omega (arith, h)

pub returns-in_default : goal.returns-in_default
returns-in_default c = sym (coord_far c.args.m c.args.d.now c.requires c.in_default.ensures)

pub nearest-nearest-requires-clause-above : goal.nearest-nearest-requires-clause-above
nearest-nearest-requires-clause-above c = c.in-Some.ensures.few_above

pub nearest-nearest-requires-clause-below : goal.nearest-nearest-requires-clause-below
nearest-nearest-requires-clause-below c = c.in-Some.ensures.few_below

pub nearest-nearest-requires-clause-some : goal.nearest-nearest-requires-clause-some
nearest-nearest-requires-clause-some c = c.in-Some.ensures.some

pub overflow_cast-result : goal.overflow_cast-result
overflow_cast-result c =
    let r = c.nearest-nearest.result in
    let few : unsigned_abs (seen_wide r) ≤ 2 ^ 29 = omega (arith, c.unsigned_abs.ensures.value) in
    fits_signed_from_abs w64 (seen_wide r) (far_below (seen_wide r) few)

pub returns-then-unsigned_abs : goal.returns-then-unsigned_abs
returns-then-unsigned_abs c =
    let r = c.nearest-nearest.result in
    let fits : SFits w128 r = search rules in
    let same : seen_wide r ≡ r = to_z-of_z w128 r fits in
    let far : 2 ^ 29 < unsigned_abs (seen_wide r) = omega (arith, c.unsigned_abs.ensures.value) in
    sym (coord_past c.args.m c.args.d.now r
    (c.nearest-nearest.ensures ∙ c.in-Some.ensures.nearest_is c.args.d.now.negative)
    (subst (λ z. 2 ^ 29 < unsigned_abs z) same far))

pub returns : goal.returns
returns c =
    let r = c.nearest-nearest.result in
    let fits : SFits w128 r = search rules in
    let same : seen_wide r ≡ r = to_z-of_z w128 r fits in
    let few : unsigned_abs (seen_wide r) ≤ 2 ^ 29 = omega (arith, c.unsigned_abs.ensures.value) in
    let near : unsigned_abs r ≤ 2 ^ 29 = subst (λ z. unsigned_abs z ≤ 2 ^ 29) same few in
    ap Some (ap seen same ∙ unseen r (far_below r near))
    ∙ sym (coord_value c.args.m c.args.d.now r
    (c.nearest-nearest.ensures ∙ c.in-Some.ensures.nearest_is c.args.d.now.negative) near)
