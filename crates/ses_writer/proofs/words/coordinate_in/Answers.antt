use Rattle.std.proofs.Common.{◌≡◌, ℕ, ℤ, pos, ◌+ℤ◌, ◌*ℤ◌, ◌*◌, ◌-◌, ◌<◌, ◌≤◌, ◌^◌, unsigned_abs, w64, of_z, arith}
use Rattle.std.proofs.Common.{refl, sym, subst, ap, ap₂, ◌∙◌}
use Rattle.std.proofs.lemmas.Int.{ints, to_z-of_z}
use Rattle.std.specs.Int.{int_div_euclid}
use mir.Val.{SFits, Fits}
use mir.Syntax.{w128}
use Rattle.geo_kernel.proofs.Bounds.{seen, seen_wide, unseen_wide}
use Rattle.ses_writer.proofs.words.coordinate_in.Goals as goal

-- a length of 64 bits is small at 128 bits
small_length : (r x : ℤ) → r ≡ seen x → SFits w64 x → unsigned_abs r ≤ 2 ^ 64
small_length r x e f = subst (λ y. unsigned_abs y ≤ 2 ^ 64) (sym (e ∙ to_z-of_z w64 x f)) (omega (arith, ints, f))

-- and so is a unit
small_unit : (r : ℤ) (nm : ℕ) → r ≡ pos nm → Fits w64 nm → unsigned_abs r ≤ 2 ^ 64
small_unit r nm e f = subst (λ y. unsigned_abs y ≤ 2 ^ 64) (sym e) (omega (arith, f.fits))

-- twice a small number fits
double_fits : (r : ℤ) → unsigned_abs r ≤ 2 ^ 64 → SFits w128 (pos 2 *ℤ seen_wide r)
double_fits r h = subst (λ y. SFits w128 (pos 2 *ℤ y)) (sym (unseen_wide r (omega (arith, h)))) (omega (arith, ints, h))

-- what the code computes as twice a number
double_is : (r z : ℤ) → r ≡ z → unsigned_abs r ≤ 2 ^ 64 → seen_wide (pos 2 *ℤ seen_wide r) ≡ pos 2 *ℤ z
double_is r z e h =
    to_z-of_z w128 (pos 2 *ℤ seen_wide r) (double_fits r h)
    ∙ ap (λ y. pos 2 *ℤ y) (unseen_wide r (omega (arith, h)) ∙ e)

-- and its bound
double_small : (r : ℤ) → unsigned_abs r ≤ 2 ^ 64 → unsigned_abs (seen_wide (pos 2 *ℤ seen_wide r)) ≤ 2 ^ 65
double_small r h = subst (λ y. unsigned_abs y ≤ 2 ^ 65) (sym (double_is r r refl h)) (omega (arith, ints, h))

-- a sum of small numbers fits
sum_fits : (a b : ℤ) → unsigned_abs a ≤ 2 ^ 65 → unsigned_abs b ≤ 2 ^ 64 → SFits w128 (a +ℤ seen_wide b)
sum_fits a b h k = subst (λ y. SFits w128 (a +ℤ y)) (sym (unseen_wide b (omega (arith, k)))) (omega (arith, ints, h, k))

-- what the code computes as the sum
sum_is : (a b : ℤ) → unsigned_abs a ≤ 2 ^ 65 → unsigned_abs b ≤ 2 ^ 64 → seen_wide (a +ℤ seen_wide b) ≡ a +ℤ b
sum_is a b h k =
    to_z-of_z w128 (a +ℤ seen_wide b) (sum_fits a b h k)
    ∙ ap (λ y. a +ℤ y) (unseen_wide b (omega (arith, k)))

pub overflow_mul-from : goal.overflow_mul-from
overflow_mul-from c = double_fits c.from.result (small_length c.from.result c.args.x c.from.ensures c.ranges.x)

pub overflow_mul-from-2 : goal.overflow_mul-from-2
overflow_mul-from-2 c = double_fits c.from-3.result (small_unit c.from-3.result c.args.nm c.from-3.ensures c.ranges.nm)

pub overflow_add-from : goal.overflow_add-from
overflow_add-from c =
    sum_fits _ c.from-2.result
    (double_small c.from.result (small_length c.from.result c.args.x c.from.ensures c.ranges.x))
    (small_unit c.from-2.result c.args.nm c.from-2.ensures c.ranges.nm)

pub div_euclid-requires-clause-nonzero : goal.div_euclid-requires-clause-nonzero
div_euclid-requires-clause-nonzero c =
    let unit = small_unit c.from-3.result c.args.nm c.from-3.ensures c.ranges.nm in
    subst (λ y. 0 < of_z w128 y) (sym (double_is c.from-3.result (pos c.args.nm) c.from-3.ensures unit))
    (omega (arith, c.requires, c.ranges.nm))

pub div_euclid-requires-clause-no_overflow : goal.div_euclid-requires-clause-no_overflow
div_euclid-requires-clause-no_overflow c is _ =
    let unit = small_unit c.from-3.result c.args.nm c.from-3.ensures c.ranges.nm in
    let e : 2 * c.args.nm ≡ 2 ^ 128 - 1 =
    ap (of_z w128) (sym (double_is c.from-3.result (pos c.args.nm) c.from-3.ensures unit)) ∙ is in
    omega (arith, e, c.ranges.nm)

pub returns : goal.returns
returns c =
    let length = small_length c.from.result c.args.x c.from.ensures c.ranges.x in
    let unit = small_unit c.from-2.result c.args.nm c.from-2.ensures c.ranges.nm in
    let below = small_unit c.from-3.result c.args.nm c.from-3.ensures c.ranges.nm in
    let x_is = c.from.ensures ∙ to_z-of_z w64 c.args.x c.ranges.x in
    let above = sum_is _ c.from-2.result (double_small c.from.result length) unit
    ∙ ap₂ (λ y z. y +ℤ z) (double_is c.from.result c.args.x x_is length) c.from-2.ensures in
    to_z-of_z w128 c.div_euclid.result (record { sfits = c.div_euclid.type_inv }) ∙ c.div_euclid.ensures
    ∙ ap₂ int_div_euclid above (double_is c.from-3.result (pos c.args.nm) c.from-3.ensures below)
