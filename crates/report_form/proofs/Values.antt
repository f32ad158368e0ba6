-- The numbers that digits write.
use Rattle.std.proofs.Common.{◌≡◌, ℕ, zero, suc, ◌+◌, ◌-◌, ◌*◌, ◌^◌, ◌<◌, ◌≤◌, ◌==◌, ◌||◌, not, Bool}
use Rattle.std.proofs.Common.{true, false}
use Rattle.std.proofs.Common.{List, [], ◌∷◌, length, take, get_or, Some, None, min, refl, sym, ap, ◌∙◌}
use Rattle.std.proofs.Common.{subst}
use Rattle.std.proofs.Common.{arith}
use Rattle.std.specs.Prelude.{decimal, nat_lt, if◌then◌else◌}
use Rattle.std.specs.List.{list_all}
use Rattle.std.specs.Char.{is_ascii_digit, digit_value}
use Rattle.std.specs.Str.Parse.{digits_value}
use Rattle.std.proofs.lemmas.Bool.{and_parts, and_from}
use Rattle.std.proofs.lemmas.Fmt.{decimal-digits_value}
use Rattle.std.proofs.lemmas.Int.Digits.{digits_value_more}
use Rattle.std.proofs.lemmas.Str.{digit_value_digit}
use Rattle.std.proofs.lemmas.Str.Parse.{IsNumeralModel, numerals_by_value, digits_value-take-le}
use Rattle.report_form.specs.Form.{IsNumber, value}
use Rattle.report_form.specs.Reading.{capped, exact}
use Rattle.report_form.proofs.Numbers.{value_of}
use Rattle.report_form.proofs.Peels.{digits}

-- ---- digits
pub record IsDigit (c : ℕ) : Type 0 where
  pub low : 48 ≤ c
  pub high : c ≤ 57

pub digit_of : (c : ℕ) → is_ascii_digit c ≡ true → IsDigit c
digit_of c h = record { low = grind arith; high = grind arith }

digit_from : (c : ℕ) → 48 ≤ c → c ≤ 57 → is_ascii_digit c ≡ true
digit_from c low high = grind arith

-- the digits' test in std's words
own : IsNumeralModel (λ ds. list_all is_ascii_digit ds ≡ true) (digits_value 10)
own = numerals_by_value (λ ds. list_all is_ascii_digit ds ≡ true) (record {
  empty = refl;
  parts = λ c cs h. let both = and_parts (is_ascii_digit c) (list_all is_ascii_digit cs) h in
      let d = digit_of c both.0 in ((d.low, d.high), both.1);
  more = λ c cs r h. and_from (is_ascii_digit c) (list_all is_ascii_digit cs) (digit_from c r.0 r.1) h;
})

pub digit_here : (ds : List ℕ) (i : ℕ) → list_all is_ascii_digit ds ≡ true → i < length ds → IsDigit (get_or ds i 0)
digit_here [] i h less = absurd (omega arith)
digit_here (c ∷ cs) zero h less = digit_of c (and_parts (is_ascii_digit c) (list_all is_ascii_digit cs) h).0
digit_here (c ∷ cs) (suc i) h less =
    digit_here cs i (and_parts (is_ascii_digit c) (list_all is_ascii_digit cs) h).1 (omega arith)

-- one digit on
pub value_more : (w : List ℕ) (i : ℕ) → IsNumber w → i < length w
    → value (take (i + 1) w) ≡ value (take i w) * 10 + (get_or w i 0 - 48)
value_more w i number less =
    let d = digit_here w i (digits w number) less in
    let e = digit_value_digit (get_or w i 0) (d.low, d.high) in
    let f : digit_value (get_or w i 0) ≡ get_or w i 0 - 48 = omega (arith, e, d.low) in
    digits_value_more 10 w i less ∙ ap (λ (x : ℕ). digits_value 10 (take i w) * 10 + x) f

-- ---- numbers that are kept
capped_step : (m n v d : ℕ) → n ≡ min v m → min (n * 10 + d) m ≡ min (v * 10 + d) m
capped_step m n v d e = omega (arith, e)

pub capped_more : (m : ℕ) (w : List ℕ) (i n : ℕ) → IsNumber w → i < length w → n ≡ capped m (take i w)
    → min (n * 10 + (get_or w i 0 - 48)) m ≡ capped m (take (i + 1) w)
capped_more m w i n number less e =
    capped_step m n (value (take i w)) (get_or w i 0 - 48) e
    ∙ ap (λ (x : ℕ). min x m) (sym (value_more w i number less))

pub capped_twice : (w : List ℕ) → min (capped (2 ^ 64 - 1) w) (2 ^ 32 - 1) ≡ capped (2 ^ 32 - 1) w
capped_twice w = omega arith

-- ---- numbers that are written
number_parts : (w : List ℕ) → IsNumber w → (0 < length w) × (get_or w 0 0 ≡ 48 → length w ≡ 1)
number_parts [] h = cc
number_parts (c ∷ cs) h =
    let both = and_parts (list_all is_ascii_digit (c ∷ cs)) (length cs == 0 || not (c == 48)) h in
    (omega arith, λ e. alone (length cs) c both.1 e)
  where
    alone : (n c : ℕ) → (n == 0 || not (c == 48)) ≡ true → c ≡ 48 → suc n ≡ 1
    alone n c h e = grind (arith, e)

-- the number's own digits
pub written : (w : List ℕ) → IsNumber w → value w < 2 ^ 64 → w ≡ decimal (value w)
written w number less =
    let parts = number_parts w number in
    sym (decimal-digits_value own w (digits w number) parts.0 parts.1 less)

pub writes_from : (w : List ℕ) (n : ℕ) → IsNumber w → n < 2 ^ 63 → capped (2 ^ 64 - 1) w ≡ n → w ≡ decimal n
writes_from w n number few e =
    let same : value w ≡ n = omega (arith, few, e) in
    written w number (omega (arith, same, few)) ∙ ap decimal same

pub writes_to : (w : List ℕ) (n : ℕ) → n < 2 ^ 63 → w ≡ decimal n → capped (2 ^ 64 - 1) w ≡ n
writes_to w n few e =
    let same : value w ≡ n = ap value e ∙ value_of n (omega (arith, few)) in omega (arith, same, few)

-- ---- exact numbers
pub exact_small : (w : List ℕ) (n : ℕ) → n ≡ value w → n < 2 ^ 128 → exact w ≡ Some n
exact_small w n e less =
    subst (λ (v : ℕ). (if nat_lt v (2 ^ 128) then Some v else None) ≡ Some n) e (by (nat_lt n (2 ^ 128)) (grind arith))
  where
    by : (b : Bool) → b ≡ true → (if b then Some n else None) ≡ Some n
    by b h = ap (λ (c : Bool). if c then Some n else None) h

pub exact_large : (w : List ℕ) → 2 ^ 128 ≤ value w → exact w ≡ None
exact_large w large = by (nat_lt (value w) (2 ^ 128)) (grind arith)
  where
    by : (b : Bool) → b ≡ false → (if b then Some (value w) else None) ≡ None
    by b h = ap (λ (c : Bool). if c then Some (value w) else None) h

-- a front of digits that is too large
pub large_front : (w : List ℕ) (i n : ℕ) → IsNumber w → i < length w → n ≡ value (take i w)
    → 2 ^ 128 ≤ n * 10 + (get_or w i 0 - 48) → exact w ≡ None
large_front w i n number less e large =
    let more = value_more w i number less in
    let step : n * 10 + (get_or w i 0 - 48) ≡ value (take i w) * 10 + (get_or w i 0 - 48) =
    ap (λ (x : ℕ). x * 10 + (get_or w i 0 - 48)) e in
    let front = digits_value-take-le 10 w (i + 1) (omega arith) in
    exact_large w (omega (arith, large, more, step, front))

-- the number of nodes is told, or it isn't
pub exact_is : (w : List ℕ) (n : ℕ) → exact w ≡ Some n → n ≡ value w
exact_is w n e = by (nat_lt (value w) (2 ^ 128)) e
  where
    by : (b : Bool) → (if b then Some (value w) else None) ≡ Some n → n ≡ value w
    by true h = cc
    by false h = cc
