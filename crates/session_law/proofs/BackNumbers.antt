-- Printed numbers are read as the lengths that they were printed from.
use Rattle.std.proofs.Common.{◌≡◌, ◌∙◌, ap, ap₂, sym, ℕ, ℤ, zero, suc, pos, negsuc, neg_ℤ, ◌+◌, ◌-◌, ◌*◌, ◌/◌, ◌%◌}
use Rattle.std.proofs.Common.{◌^◌, ◌<◌, ◌≤◌}
use Rattle.std.proofs.Common.{◌||◌, ◌*ℤ◌, Bool, true, false, nat_lt, List, [], ◌∷◌, ◌++◌, length, refl, arith, Some}
use Rattle.std.proofs.Common.{None, mul_assoc, add-mul}
use Rattle.std.specs.Prelude.{decimal, unsigned_abs, if◌then◌else◌}
use Rattle.std.specs.Fmt.{signed_decimal}
use Rattle.std.specs.Int.{div_ceil}
use Rattle.std.specs.Char.{is_ascii_digit}
use Rattle.std.specs.List.{list_all}
use Rattle.std.proofs.lemmas.Bool.Decides.{nat_tests}
use Rattle.std.proofs.lemmas.List.{append-nil}
use Rattle.std.proofs.lemmas.List.Folds.{list_all-append}
use Rattle.std.proofs.lemmas.Grind.{fold-append}
use Rattle.std.proofs.lemmas.Fmt.{decimal_by_steps, decimal_nonempty, length-decimal-le}
use Rattle.std.proofs.lemmas.Bool.{le-leb, le-ltb, ne_eqb}
use Rattle.geo_kernel.specs.Units.{unit_nm}
use Rattle.dsn_units.specs.declared.number.Decimal.{Decimal}
use Rattle.dsn_units.specs.Length.{signed, nearest}
use Rattle.dsn_units.specs.Reading.{decimal_of}
use Rattle.dsn_units.specs.Spelling.{Sign, Spelling, bare, minus, sign_text, is_minus, number_of, IsSpelling}
use Rattle.dsn_units.proofs.Spellings.{spelling_read}
use Rattle.dsn_units.specs.Halves.{IsHalves, nearest_half}
use Rattle.dsn_units.proofs.Floors.{nearest_is, roof_is}
use Rattle.dsn_shapes.specs.Numbers.{number_by}
use Rattle.dsn_structure.specs.Header.{count_by, some_count}
use Rattle.session_law.proofs.BackMeasured.{Measure}
use Rattle.ses_reader.specs.Measures.{rounded, coord_of, extent_of, raised_up}

-- ---- the words
-- digits that spell a number
record Spell (n : ℕ) (ds : List ℕ) : Type 0 where
  digit : list_all is_ascii_digit ds ≡ true
  value : number_of ds ≡ n

-- one digit
one_digit : (n : ℕ) → n < 10 → Spell n ((48 + n) ∷ [])
one_digit n h = record { digit = grind (arith, nat_tests); value = omega arith }

-- one more digit
last_digit : (n : ℕ) (ds : List ℕ) → 10 ≤ n → Spell (n / 10) ds → Spell n (ds ++ (48 + n % 10) ∷ [])
last_digit n ds h s = record {
  digit = list_all-append is_ascii_digit ds ((48 + n % 10) ∷ []) ∙ rw s.digit (one_digit (n % 10) (omega arith)).digit;
  value = fold-append (λ (k b : ℕ). 10 * k + (b - 48)) 0 ds ((48 + n % 10) ∷ [])
      ∙ (let e = s.value in omega arith);
}

-- those of a decimal number
spelled : (n : ℕ) → n < 2 ^ 64 → Spell n (decimal n)
spelled n h = decimal_by_steps Spell one_digit last_digit n h

-- a whole number as a decimal
abbrev pub whole : Bool → ℕ → Decimal
whole negative n = record { negative = negative; digits = n; exponent = pos 0 }

-- a decimal number behind a sign is read
read_back : (s : Sign) (n : ℕ) → n ≤ 2 ^ 29 → decimal_of (sign_text s ++ decimal n) ≡ Some (whole (is_minus s) n)
read_back s n h =
    let some = decimal_nonempty n (omega arith) in
    let few = length-decimal-le 18 n (omega arith) (omega arith) (omega arith) in
    let digits = spelled n (omega arith) in
    let spelling : Spelling = record { sign = s; whole = decimal n; fraction = None; exponent = None } in
    let back : decimal n ++ [] ≡ decimal n = append-nil (decimal n) in
    let is : IsSpelling spelling = record {
      digits = record {
        digit = ap (list_all is_ascii_digit) back ∙ digits.digit;
        some = omega (arith, ap length back, some);
        few = omega (arith, ap length back, few);
      };
      exponent = tt;
    } in
    ap (λ (ds : List ℕ). decimal_of (sign_text s ++ ds)) (sym back) ∙ spelling_read spelling is
    ∙ ap (λ (k : ℕ). Some (whole (is_minus s) k)) (ap number_of back ∙ digits.value)

-- whether a number has a sign
abbrev pub is_negative : ℤ → Bool
is_negative (pos n) = false
is_negative (negsuc n) = true

-- a number with its sign is read
pub signed_back : (z : ℤ) → unsigned_abs z ≤ 2 ^ 29
    → decimal_of (signed_decimal z) ≡ Some (whole (is_negative z) (unsigned_abs z))
signed_back (pos n) h = read_back bare n h
signed_back (negsuc n) h = read_back minus (suc n) h

-- ---- fractions that are whole
-- a whole number is twice as many halves
halves : (k d : ℕ) → 0 < d → k ≤ 2 ^ 29 → IsHalves (k * d) d (2 * k) true
halves k d h small =
    let twice = mul_assoc 2 k d in
    record {
      low = omega (arith, twice);
      high = omega (arith, twice, add-mul (2 * k) 1 d);
      whole = (λ t. sym twice, λ e. refl);
      small = omega arith;
    }

-- half of them, to the nearest
half_back : (negative : Bool) (k : ℕ) → nearest_half negative true (2 * k) ≡ k
half_back true k = omega arith
half_back false k = omega arith

-- the nearest number to a whole number
near_whole : (negative : Bool) (k d : ℕ) → 0 < d → k ≤ 2 ^ 29 → nearest (signed negative (k * d)) d ≡ signed negative k
near_whole negative k d h small = nearest_is negative true (k * d) d (2 * k) (halves k d h small)
    ∙ ap (signed negative) (half_back negative k)

-- which is what it is rounded up to
raised_whole : (k d : ℕ) → 0 < d → k ≤ 2 ^ 29 → div_ceil (k * d) d ≡ k
raised_whole k d h small = roof_is true (k * d) d (2 * k) (halves k d h small) ∙ omega arith

-- ---- lengths
-- a measure of which each unit is so many nm
pub record IsScaled (m : Measure) (nm : ℕ) : Type 0 where
  pub some_per : 0 < m.per
  pub few_per : m.per ≤ 1000000
  pub some_nm : 0 < nm
  pub unit_is : unit_nm m.unit ≡ nm * m.per

module _ (m : Measure) (nm : ℕ) (scaled : IsScaled m nm) where
  -- so many units in nm
  above_is : (k : ℕ) → k * unit_nm m.unit * 1 ≡ (k * nm) * m.per
  above_is k = omega (arith, ap (λ (u : ℕ). k * u) scaled.unit_is, mul_assoc k nm m.per)

  -- one unit divides by their count
  below_is : 1 * m.per ≡ m.per
  below_is = omega arith

  -- so many units, to the nearest nm
  rounded_is : (negative : Bool) (k : ℕ) → k * nm ≤ 2 ^ 29 → rounded m (whole negative k) ≡ signed negative (k * nm)
  rounded_is negative k small = ap₂ (λ (a b : ℕ). nearest (signed negative a) b) (above_is k) below_is
      ∙ near_whole negative (k * nm) m.per scaled.some_per small

  -- so many units, upwards
  raised_is : (k : ℕ) → k * nm ≤ 2 ^ 29 → raised_up m (whole false k) ≡ k * nm
  raised_is k small = ap₂ (λ (a b : ℕ). div_ceil a b) (above_is k) below_is
      ∙ raised_whole (k * nm) m.per scaled.some_per small

  -- a coordinate within the limit
  coord_if : (d : Decimal) (x : ℤ) → rounded m d ≡ x → unsigned_abs x ≤ 2 ^ 29 → coord_of m d ≡ Some x
  unfolding coord_of
  coord_if d x e small = rw (e, le-leb (unsigned_abs x) (2 ^ 29) small) refl

  -- a width within the limit
  extent_if : (k w : ℕ) → raised_up m (whole false k) ≡ w → w ≤ 2 ^ 28 → extent_of m (whole false k) ≡ Some w
  unfolding extent_of
  extent_if k w e small = rw (e, le-ltb (2 ^ 28) w small) refl

-- a number is its size with its sign
sign_back : (z : ℤ) (nm : ℕ) → signed (is_negative z) (unsigned_abs z * nm) ≡ z *ℤ pos nm
sign_back (pos n) nm = refl
sign_back (negsuc n) nm = refl

-- the size of a number below 0
size_below : (n : ℕ) → unsigned_abs (neg_ℤ (pos n)) ≡ n
size_below zero = refl
size_below (suc n) = refl

-- so many units are so large
size_back : (z : ℤ) (nm : ℕ) → unsigned_abs (z *ℤ pos nm) ≡ unsigned_abs z * nm
size_back (pos n) nm = refl
size_back (negsuc n) nm = size_below (suc n * nm)

module _ (m : Measure) (nm : ℕ) (scaled : IsScaled m nm) where
  -- a printed coordinate is read
  pub coord_back : (z x : ℤ) → unsigned_abs z ≤ unsigned_abs x → x ≡ z *ℤ pos nm → unsigned_abs x ≤ 2 ^ 29
      → number_by (coord_of m) (decimal_of (signed_decimal z)) ≡ Some x
  coord_back z x less back small =
      let size : unsigned_abs z * nm ≤ 2 ^ 29 = omega (arith, size_back z nm, ap unsigned_abs back) in
      let back_too = rounded_is m nm scaled (is_negative z) (unsigned_abs z) size ∙ sign_back z nm ∙ sym back in
      ap (number_by (coord_of m)) (signed_back z (omega arith))
      ∙ coord_if m nm scaled (whole (is_negative z) (unsigned_abs z)) x back_too small

  -- a printed width is read
  pub extent_back : (k w : ℕ) → k ≤ w → w ≡ k * nm → w ≤ 2 ^ 28
      → number_by (extent_of m) (decimal_of (decimal k)) ≡ Some w
  extent_back k w less back small =
      ap (number_by (extent_of m)) (read_back bare k (omega arith))
      ∙ extent_if m nm scaled k w (raised_is m nm scaled k (omega arith) ∙ sym back) small

-- ---- the count of a resolution
-- a count within bounds
count_if : (n k : ℕ) → k ≡ n → 0 < n → n ≤ 1000000
    → some_count (if nat_lt 1000000 k then None else Some k) ≡ Some n
count_if n k e some few = rw (e, le-ltb 1000000 n few) (rw (ne_eqb n 0 (λ z. omega (arith, z, some))) refl)

-- a printed count is read
pub count_back : (n : ℕ) → 0 < n → n ≤ 1000000 → count_by (decimal_of (decimal n)) ≡ Some n
count_back n some few =
    let whole_number : n * 1 * 1 % 1 ≡ 0 = omega arith in
    let same : n * 1 * 1 / 1 ≡ n = omega arith in
    ap count_by (read_back bare n (omega arith))
    ∙ ap (λ (r : ℕ). some_count (if nat_lt 0 r || nat_lt 1000000 (n * 1 * 1 / 1) then None else Some (n * 1 * 1 / 1)))
    whole_number ∙ count_if n (n * 1 * 1 / 1) same some few
