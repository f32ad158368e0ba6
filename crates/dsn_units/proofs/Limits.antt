-- Values within their limits and past them.
use Rattle.std.proofs.Common.{◌≡◌, ◌<◌, ◌≤◌, ◌+◌, ◌*◌, ◌/◌, ◌%◌, ◌^◌, ◌||◌, ◌⊎◌, inl, inr, ◌∙◌, ap, sym, subst}
use Rattle.std.proofs.Common.{true≢false, IsTrue, zero, suc, ℕ, ℤ, pos, Bool, true, false, nat_le, nat_lt, Some, None}
use Rattle.std.proofs.Common.{arith, refl}
use Rattle.std.specs.Prelude.{unsigned_abs, if◌then◌else◌}
use Rattle.std.proofs.lemmas.Bool.{false≢true}
use Rattle.std.proofs.lemmas.Bool.Decides.{nat_tests}
use Rattle.std.proofs.Math.Nat.{mul-le-mul_right, le_of_mul-le-mul_left, lt_of_mul-lt-mul_left}
use Rattle.std.proofs.lemmas.Nat.{le-div, div-add-mod', div-mul-add, mod-mul-add}
use Rattle.std.specs.Int.{int_rem_euclid}
use Rattle.dsn_units.specs.declared.number.Decimal.{Decimal}
use Rattle.dsn_units.specs.declared.angle.Angle.{Angle}
use Rattle.dsn_units.specs.Length.{top, bottom, signed, rounded, coord_of, extent_of, raised_up, is_below_zero}
use Rattle.dsn_units.specs.Length.{angle_of, whole_of, lowered}
use Rattle.dsn_units.specs.Halves.{IsHalves, nearest_half, roof_half, is_past, is_odd}
use Rattle.dsn_units.proofs.Floors.{nearest_is, nearest_far, roof_is, roof_far}
use Rattle.dsn_units.proofs.Powers.{ten_power_pos}

within : {A : Type 0} (a m : ℕ) (x : A) → a ≤ m → (if nat_le a m then Some x else None) ≡ Some x
within a m x h = grind (arith, nat_tests)

past : {A : Type 0} (a m : ℕ) (x : A) → m < a → (if nat_le a m then Some x else None) ≡ None
past a m x h = grind (arith, nat_tests)

bottom_pos : (d : Decimal) → 0 < bottom d
bottom_pos d = ten_power_pos (lowered d.exponent)

pub coord_far : (d : Decimal) (nm : ℕ) → 2 ^ 48 * bottom d < top d nm → coord_of d nm ≡ None
coord_far d nm h =
    past _ _ _ (let f : 2 ^ 48 < unsigned_abs (rounded d nm) + 1 =
    nearest_far d.negative (top d nm) (bottom d) (2 ^ 48) (bottom_pos d) h in omega arith)

pub coord_past : (d : Decimal) (nm count : ℕ) (exact : Bool) (c : ℤ) → IsHalves (top d nm) (bottom d) count exact
    → c ≡ signed d.negative (nearest_half d.negative exact count) → 2 ^ 29 < unsigned_abs c → coord_of d nm ≡ None
coord_past d nm count exact c h e far =
    past _ _ _ (subst (λ z. 2 ^ 29 < unsigned_abs z)
    (e ∙ sym (nearest_is d.negative exact (top d nm) (bottom d) count h)) far)

pub coord_value : (d : Decimal) (nm count : ℕ) (exact : Bool) (c : ℤ) → IsHalves (top d nm) (bottom d) count exact
    → c ≡ signed d.negative (nearest_half d.negative exact count) → unsigned_abs c ≤ 2 ^ 29 → coord_of d nm ≡ Some c
coord_value d nm count exact c h e near =
    let f : c ≡ rounded d nm = e ∙ sym (nearest_is d.negative exact (top d nm) (bottom d) count h) in
    within _ _ _ (subst (λ z. unsigned_abs z ≤ 2 ^ 29) f near) ∙ ap Some (sym f)

past_width : (below : Bool) (r : ℕ) → 2 ^ 28 < r → (if below || nat_lt (2 ^ 28) r then None else Some r) ≡ None
past_width true r h = refl
past_width false r h = grind (arith, nat_tests)

within_width : (r s : ℕ) → r ≡ s → s ≤ 2 ^ 28 → (if nat_lt (2 ^ 28) r then None else Some r) ≡ Some s
within_width r s e h = grind (arith, nat_tests)

pub extent_far : (d : Decimal) (nm : ℕ) → 2 ^ 48 * bottom d < top d nm → extent_of d nm ≡ None
extent_far d nm h =
    past_width (is_below_zero d) (raised_up d nm)
    (let f : 2 ^ 48 < raised_up d nm = roof_far (top d nm) (bottom d) (2 ^ 48) (bottom_pos d) h in omega arith)

pub extent_past : (d : Decimal) (nm count s : ℕ) (exact : Bool) → IsHalves (top d nm) (bottom d) count exact
    → s ≡ roof_half exact count → 2 ^ 28 < s → extent_of d nm ≡ None
extent_past d nm count s exact h e far =
    past_width (is_below_zero d) (raised_up d nm) (let f : raised_up d nm ≡ roof_half exact count =
    roof_is exact (top d nm) (bottom d) count h in omega arith)

pub extent_value : (d : Decimal) (nm count s : ℕ) (exact : Bool) → is_below_zero d ≡ false
    → IsHalves (top d nm) (bottom d) count exact → s ≡ roof_half exact count → s ≤ 2 ^ 28 → extent_of d nm ≡ Some s
extent_value d nm count s exact b h e near =
    rw b (within_width (raised_up d nm) s (roof_is exact (top d nm) (bottom d) count h ∙ sym e) near)

at_limit : (n d count : ℕ) (exact : Bool) → 0 < d → IsHalves n d count exact → is_past exact count ≡ true
    → 1000000000000 * d < n
at_limit n d count true some h e = let past_it : 2000000000000 < count = grind (arith, nat_tests) in
    omega (arith, h.low, mul-le-mul_right d (let k : 2000000000001 ≤ count = omega arith in k))
at_limit n d count false some h e = let past_it : 2000000000000 ≤ count = grind (arith, nat_tests) in
    more (mul-le-mul_right d past_it) h.low (λ f. false≢true (h.whole.1 f))
  where
    more : 2000000000000 * d ≤ count * d → count * d ≤ 2 * n → (2 * n ≡ count * d → ⊥) → 1000000000000 * d < n
    more a b ne = omega (arith, ne)

in_limit : (n d count : ℕ) (exact : Bool) → 0 < d → IsHalves n d count exact → is_past exact count ≡ false
    → n ≤ 1000000000000 * d
in_limit n d count true some h e = let in_it : count ≤ 2000000000000 = grind (arith, nat_tests) in
    omega (arith, h.whole.0 refl, mul-le-mul_right d in_it)
in_limit n d count false some h e = let in_it : count + 1 ≤ 2000000000000 = grind (arith, nat_tests) in
    omega (arith, h.high, mul-le-mul_right d in_it)

pub angle_past : (d : Decimal) (count : ℕ) (exact : Bool) → IsHalves (top d 1000000) (bottom d) count exact
    → is_past exact count ≡ true → angle_of d ≡ None
angle_past d count exact h e = past _ _ _ (at_limit _ _ count exact (bottom_pos d) h e)

pub angle_value : (d : Decimal) (count : ℕ) (exact : Bool) (c r : ℤ) → IsHalves (top d 1000000) (bottom d) count exact
    → is_past exact count ≡ false → c ≡ signed d.negative (nearest_half d.negative exact count)
    → r ≡ int_rem_euclid c (pos 360000000) → angle_of d ≡ Some (record { microdegrees = unsigned_abs r })
angle_value d count exact c r h e f g =
    let same : r ≡ int_rem_euclid (rounded d 1000000) (pos 360000000) =
    g ∙ ap (λ z. int_rem_euclid z (pos 360000000))
    (f ∙ sym (nearest_is d.negative exact (top d 1000000) (bottom d) count h)) in
    within _ _ _ (in_limit _ _ count exact (bottom_pos d) h e)
    ∙ ap (λ z. let a : Angle = record { microdegrees = unsigned_abs z } in Some a) (sym same)

some_whole : (m q r : ℕ) → r ≡ 0 → q ≤ m → (if nat_lt 0 r || nat_lt m q then None else Some q) ≡ Some q
some_whole m q r e h = grind (arith, nat_tests)

no_whole : (m q r : ℕ) → (0 < r) ⊎ (m < q) → (if nat_lt 0 r || nat_lt m q then None else Some q) ≡ None
no_whole m q r (inl h) = grind (arith, nat_tests)
no_whole m q r (inr h) = grind (arith, nat_tests)

below_or : (below : Bool) (m q r : ℕ) → (0 < r) ⊎ (m < q)
    → (if below || (nat_lt 0 r || nat_lt m q) then None else Some q) ≡ None
below_or true m q r h = refl
below_or false m q r h = no_whole m q r h

pub whole_far : (d : Decimal) (most : ℕ) → most < 2 ^ 32 → 2 ^ 48 * bottom d < top d 1 → whole_of d most ≡ None
whole_far d most small h =
    below_or (is_below_zero d) most (top d 1 / bottom d) (top d 1 % bottom d)
    (inr (let f : 2 ^ 48 ≤ top d 1 / bottom d = le-div (2 ^ 48) (top d 1) (bottom d) (bottom_pos d) (omega arith) in
    omega arith))

-- a count of halves that is whole
half_of : (n d count : ℕ) (exact : Bool) → 0 < d → IsHalves n d count exact → is_odd exact count ≡ false
    → n ≡ count / 2 * d + 0
half_of n d count false some h e = absurd (true≢false e)
half_of n d count true some h e =
    let even : count ≡ count / 2 * 2 = grind (arith, nat_tests) in
    let double : count * d ≡ count / 2 * 2 * d = ap (λ c. c * d) even in omega (arith, h.whole.0 refl, double)

half_below : (n d count : ℕ) (exact : Bool) → 0 < d → IsHalves n d count exact → count / 2 ≤ n / d
half_below n d count exact some h =
    le-div (count / 2) n d some
    (omega (arith, h.low, mul-le-mul_right d (let k : count / 2 * 2 ≤ count = omega arith in k)))

not_odd : (exact : Bool) (count q : ℕ) → IsTrue exact → count ≡ 2 * q → is_odd exact count ≡ false
not_odd true count q t e = grind (arith, nat_tests)
not_odd false count q t e = absurd (false≢true t)

rest_of_odd : (n d count q : ℕ) (exact : Bool) → 0 < d → IsHalves n d count exact → n ≡ q * d
    → is_odd exact count ≡ false
rest_of_odd n d count q exact some h e =
    let low : count ≤ 2 * q = le_of_mul-le-mul_left {k = d} (omega (arith, h.low)) some in
    let high : 2 * q < count + 1 = lt_of_mul-lt-mul_left d (omega (arith, h.high)) in
    let same : count ≡ 2 * q = omega arith in
    let product : count * d ≡ 2 * q * d = ap (λ c. c * d) same in
    not_odd exact count q (h.whole.1 (omega arith)) same

odd_has_rest : (n d count : ℕ) (exact : Bool) → 0 < d → IsHalves n d count exact → is_odd exact count ≡ true → 0 < n % d
odd_has_rest n d count exact some h e = go (n % d) refl
  where
    go : (r : ℕ) → n % d ≡ r → 0 < n % d
    go zero f = absurd
        (true≢false (sym e ∙ rest_of_odd n d count (n / d) exact some h (omega (arith, div-add-mod' n d))))
    go (suc r) f = omega arith

whole_made : (most q h r : ℕ) → q ≡ h → r ≡ 0 → h ≤ most → (if nat_lt 0 r || nat_lt most q then None else Some q)
    ≡ Some h
whole_made most q h r e f near = some_whole most q r f (omega arith) ∙ ap Some e

pub whole_value : (d : Decimal) (most count : ℕ) (exact : Bool) → is_below_zero d ≡ false
    → IsHalves (top d 1) (bottom d) count exact → is_odd exact count ≡ false → count / 2 ≤ most
    → whole_of d most ≡ Some (count / 2)
whole_value d most count exact b h e near =
    let half : top d 1 ≡ count / 2 * bottom d + 0 = half_of (top d 1) (bottom d) count exact (bottom_pos d) h e in
    rw b (whole_made most (top d 1 / bottom d) (count / 2) (top d 1 % bottom d)
    (ap (λ n. n / bottom d) half ∙ div-mul-add (count / 2) (bottom d) 0 (bottom_pos d))
    (ap (λ n. n % bottom d) half ∙ mod-mul-add (count / 2) (bottom d) 0 (bottom_pos d)) near)

pub whole_past : (d : Decimal) (most count : ℕ) (exact : Bool) → IsHalves (top d 1) (bottom d) count exact
    → (is_odd exact count ≡ true) ⊎ (most < count / 2) → whole_of d most ≡ None
whole_past d most count exact h (inl e) =
    below_or (is_below_zero d) most (top d 1 / bottom d) (top d 1 % bottom d)
    (inl (odd_has_rest (top d 1) (bottom d) count exact (bottom_pos d) h e))
whole_past d most count exact h (inr e) =
    below_or (is_below_zero d) most (top d 1 / bottom d) (top d 1 % bottom d)
    (inr (let f : count / 2 ≤ top d 1 / bottom d = half_below (top d 1) (bottom d) count exact (bottom_pos d) h in
    omega arith))
