-- A printed length is told by its bytes, where no digit follows, and is the length itself where that is whole.
use Rattle.std.proofs.Common.{◌≡◌, ℕ, zero, suc, ◌+◌, ◌-◌, ◌*◌, ◌/◌, ◌%◌, ◌^◌, ◌<◌, ◌≤◌, ℤ, pos, negsuc, neg_ℤ, ◌+ℤ◌}
use Rattle.std.proofs.Common.{◌*ℤ◌, true, List, [], ◌∷◌, ◌++◌, length, ap, sym, ◌∙◌, refl, subst, drop, get_or, arith}
use Rattle.std.proofs.Common.{lt-ltb, eqb-true, mul_assoc, mul_comm, add-mul}
use Rattle.std.proofs.Math.Nat.{div-le_self}
use Rattle.std.specs.Int.{int_div_euclid}
use Rattle.std.specs.Prelude.{decimal, unsigned_abs}
use Rattle.std.specs.Fmt.{signed_decimal}
use Rattle.std.specs.Char.{is_ascii_digit}
use Rattle.std.specs.Str.Parse.{AllDigits}
use Rattle.std.specs.List.{list_all}
use Rattle.std.proofs.lemmas.Fmt.{decimal_is_IsNumeral, decimal_injective}
use Rattle.std.proofs.lemmas.Bool.{and_parts, and_from, both_ways}
use Rattle.std.proofs.lemmas.Nat.{div-mul-add, div-add-mod'}
use Rattle.std.proofs.lemmas.Str.Parse.{digit_from_value}
use Rattle.ses_writer.specs.Words.{nearest, length_word}
use Rattle.pcb_model.specs.Scale.{is_whole}
use Rattle.told_words.specs.Stops.{Stops}
use Rattle.told_words.proofs.Bytes.{cut}

-- digits pass the test for one digit
all_digits : (ds : List ℕ) → AllDigits 10 ds → list_all is_ascii_digit ds ≡ true
all_digits [] h = refl
all_digits (d ∷ ds) h =
    let r = digit_from_value d h.0 in
    and_from (is_ascii_digit d) (list_all is_ascii_digit ds) (grind arith) (all_digits ds h.1)

-- so do those of a decimal number
digits_only : (n : ℕ) → n < 2 ^ 64 → list_all is_ascii_digit (decimal n) ≡ true
digits_only n h = all_digits (decimal n) (decimal_is_IsNumeral n h).0.1

-- a decimal number is told by its digits, where no digit follows
decimal_tells : (m n : ℕ) (r t : List ℕ) → m < 2 ^ 64 → n < 2 ^ 64 → Stops is_ascii_digit r → Stops is_ascii_digit t
    → decimal m ++ r ≡ decimal n ++ t → (m ≡ n) × (r ≡ t)
decimal_tells m n r t p q s u e =
    let both = cut is_ascii_digit (decimal m) (decimal n) r t (digits_only m p) (digits_only n q) s u e in
    (decimal_injective m n p q both.0, both.1)

-- digits do not begin with a minus
no_minus : (ds r t : List ℕ) → 0 < length ds → list_all is_ascii_digit ds ≡ true → ds ++ r ≡ 45 ∷ t → ⊥
no_minus [] r t h d e = omega (arith, h)
no_minus (c ∷ cs) r t h d e = both_ways (is_ascii_digit c) (ap is_ascii_digit (ap (λ (xs : List ℕ). get_or xs 0 0) e))
    (and_parts (is_ascii_digit c) (list_all is_ascii_digit cs) d).0

-- nor does a decimal number
no_sign : (n : ℕ) (r t : List ℕ) → n < 2 ^ 64 → decimal n ++ r ≡ 45 ∷ t → ⊥
no_sign n r t h e = no_minus (decimal n) r t (decimal_is_IsNumeral n h).0.0 (digits_only n h) e

-- a number with its sign is told by its bytes
signed_tells : (y z : ℤ) (r t : List ℕ) → unsigned_abs y < 2 ^ 63 → unsigned_abs z < 2 ^ 63 → Stops is_ascii_digit r
    → Stops is_ascii_digit t → signed_decimal y ++ r ≡ signed_decimal z ++ t → (y ≡ z) × (r ≡ t)
signed_tells (pos m) (pos n) r t p q s u e =
    let both = decimal_tells m n r t (omega arith) (omega arith) s u e in (ap pos both.0, both.1)
signed_tells (pos m) (negsuc n) r t p q s u e = absurd (no_sign m r (decimal (suc n) ++ t) (omega arith) e)
signed_tells (negsuc m) (pos n) r t p q s u e = absurd (no_sign n t (decimal (suc m) ++ r) (omega arith) (sym e))
signed_tells (negsuc m) (negsuc n) r t p q s u e =
    let both = decimal_tells (suc m) (suc n) r t (omega arith) (omega arith) s u (ap (λ (xs : List ℕ). drop 1 xs) e) in
    (ap negsuc (omega (arith, both.0)), both.1)

-- ---- lengths
-- twice a multiple
regroup : (q nm : ℕ) → 2 * (q * nm) ≡ q * (2 * nm)
regroup q nm = omega (arith, mul_assoc q 2 nm, mul_comm q 2, mul_assoc 2 q nm)

-- a whole number of units is that many units
pub multiple : (nm n : ℕ) → is_whole nm n ≡ true → n / nm * nm ≡ n
multiple nm n h = let left = eqb-true (n % nm) 0 h in omega (arith, div-add-mod' n nm, left)

-- the nearest whole number of units above 0
near_above : (nm n : ℕ) → 0 < nm → is_whole nm n ≡ true → nearest nm (pos n) ≡ pos (n / nm)
near_above nm n h w = ap pos (ap (λ (a : ℕ). (a + nm) / (2 * nm))
    (ap (λ (a : ℕ). 2 * a) (sym (multiple nm n w)) ∙ regroup (n / nm) nm)
    ∙ div-mul-add (n / nm) (2 * nm) nm (omega arith))

-- and below 0
turned : (k nm p : ℕ) → 0 < nm → suc k ≡ p * (2 * nm) + 2 * nm → int_div_euclid (neg_ℤ (pos (suc k)) +ℤ pos nm)
    (pos (2 * nm)) ≡ negsuc p
-- the nearest whole number of units below 0, by its division
turned k nm p h e =
    let less : nm < suc k = omega arith in
    rw (lt-ltb nm (suc k) less)
    (ap negsuc (ap (λ (a : ℕ). a / (2 * nm)) {x = suc k - suc nm} {y = p * (2 * nm) + (nm - 1)} (omega arith)
    ∙ div-mul-add p (2 * nm) (nm - 1) (omega arith)))

-- a length that is whole in a unit is so many of it as its nearest number says
pub record Near (nm : ℕ) (x : ℤ) : Type 0 where
  pub small : unsigned_abs (nearest nm x) ≤ unsigned_abs x
  pub back : x ≡ nearest nm x *ℤ pos nm

-- both facts of the nearest number from what it is
near_from : (nm : ℕ) (x z : ℤ) → nearest nm x ≡ z → unsigned_abs z ≤ unsigned_abs x → x ≡ z *ℤ pos nm → Near nm x
near_from nm x z e small back = record {
  small = subst (λ (y : ℤ). unsigned_abs y ≤ unsigned_abs x) (sym e) small;
  back = back ∙ ap (λ (y : ℤ). y *ℤ pos nm) (sym e);
}

-- and of a negative length
near_below : (nm n p : ℕ) → 0 < nm → suc p * nm ≡ suc n → nearest nm (negsuc n) ≡ negsuc p
near_below nm n p h e =
    ap (λ (a : ℕ). int_div_euclid (neg_ℤ (pos a) +ℤ pos nm) (pos (2 * nm))) {x = 2 * suc n} {y = suc (2 * n + 1)}
    (omega arith)
    ∙ turned (2 * n + 1) nm p h (omega (arith, regroup (suc p) nm, add-mul p 1 (2 * nm)))

-- every whole length is so
pub near : (nm : ℕ) (x : ℤ) → 0 < nm → is_whole nm (unsigned_abs x) ≡ true → Near nm x
near nm (pos n) h w = near_from nm (pos n) (pos (n / nm)) (near_above nm n h w) (div-le_self n nm)
    (ap pos (sym (multiple nm n w)))
near nm (negsuc n) h w = by (suc n / nm) (multiple nm (suc n) w) (div-le_self (suc n) nm)
  where
    by : (q : ℕ) → q * nm ≡ suc n → q ≤ suc n → Near nm (negsuc n)
    by zero e k = absurd (omega arith)
    by (suc p) e k = near_from nm (negsuc n) (negsuc p) (near_below nm n p h e) k
        (ap (λ (a : ℕ). neg_ℤ (pos a)) (sym e))

-- a length that a session prints exactly
pub record IsExact (nm : ℕ) (x : ℤ) : Type 0 where
  pub whole : is_whole nm (unsigned_abs x) ≡ true
  pub small : unsigned_abs x ≤ 2 ^ 29

-- a printed length tells the length
pub length_tells : (nm : ℕ) (x y : ℤ) (r t : List ℕ) → 0 < nm → IsExact nm x → IsExact nm y → Stops is_ascii_digit r
    → Stops is_ascii_digit t → length_word nm x ++ r ≡ length_word nm y ++ t → (x ≡ y) × (r ≡ t)
unfolding length_word
length_tells nm x y r t h p q s u e =
    let n = near nm x h p.whole in
    let m = near nm y h q.whole in
    let both = signed_tells (nearest nm x) (nearest nm y) r t (omega (arith, n.small, p.small))
    (omega (arith, m.small, q.small)) s u
    (ap (λ (xs : List ℕ). drop 1 xs) e) in
    (n.back ∙ ap (λ (z : ℤ). z *ℤ pos nm) both.0 ∙ sym m.back, both.1)

-- no digit
pub blank_stops : (nm : ℕ) (x : ℤ) (r : List ℕ) → Stops is_ascii_digit (length_word nm x ++ r)
unfolding length_word
blank_stops nm x r = refl
