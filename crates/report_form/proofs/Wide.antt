-- Numbers of up to 64 digits are what is printed of them.
use Rattle.std.proofs.Common.{◌≡◌, ◌⊎◌, inl, inr, ℕ, zero, suc, ◌+◌, ◌-◌, ◌*◌, ◌/◌, ◌%◌, ◌^◌, ◌<◌, ◌≤◌, ◌==◌, ◌||◌}
use Rattle.std.proofs.Common.{not, Bool}
use Rattle.std.proofs.Common.{true, false, List, [], ◌∷◌, ◌++◌, length, get_or, refl, sym, ap, ap₂, ◌∙◌, subst, arith}
use Rattle.std.specs.Prelude.{decimal}
use Rattle.std.specs.List.{list_all}
use Rattle.std.specs.Char.{is_ascii_digit, digit_value}
use Rattle.std.proofs.lemmas.Bool.{and_parts, and_from, cases_lt}
use Rattle.std.proofs.lemmas.Fmt.{decimal_is_IsNumeral_wide, decimal_by_steps_wide}
use Rattle.std.proofs.lemmas.Int.Digits.{digits_value_push}
use Rattle.std.proofs.lemmas.List.{length_push}
use Rattle.std.proofs.lemmas.Str.{digit_value_digit}
use Rattle.report_form.specs.Form.{IsNumber, value}
use Rattle.report_form.proofs.Numbers.{number_of}
use Rattle.report_form.proofs.Peels.{digits}
use Rattle.report_form.proofs.Values.{IsDigit, digit_of}

pub value_wide : (n : ℕ) → n < 10 ^ 64 → value (decimal n) ≡ n
value_wide n h = (decimal_is_IsNumeral_wide n h).1

-- ---- digits from the last on
record Last (w : List ℕ) : Type 0 where
  front : List ℕ
  digit : ℕ
  is : w ≡ front ++ digit ∷ []

last_of : (x : ℕ) (w : List ℕ) → Last (x ∷ w)
last_of x [] = record { front = []; digit = x; is = refl }
last_of x (y ∷ w) =
    let rest = last_of y w in
    record { front = x ∷ rest.front; digit = rest.digit; is = ap (λ (z : List ℕ). x ∷ z) rest.is }

last_value : (ds : List ℕ) (c : ℕ) → IsDigit c → value (ds ++ c ∷ []) ≡ value ds * 10 + (c - 48)
last_value ds c d =
    let e = digit_value_digit c (d.low, d.high) in
    let f : digit_value c ≡ c - 48 = omega (arith, e, d.low) in
    digits_value_push 10 ds c ∙ ap (λ (x : ℕ). value ds * 10 + x) f

last_digit : (ds : List ℕ) (c : ℕ) → list_all is_ascii_digit (ds ++ c ∷ []) ≡ true
    → (list_all is_ascii_digit ds ≡ true) × IsDigit c
last_digit [] c h = (refl, digit_of c (and_parts (is_ascii_digit c) true h).0)
last_digit (x ∷ ds) c h =
    let both = and_parts (is_ascii_digit x) (list_all is_ascii_digit (ds ++ c ∷ [])) h in
    let rest = last_digit ds c both.1 in
    (and_from (is_ascii_digit x) (list_all is_ascii_digit ds) both.0 rest.0, rest.1)

-- the first digit of several isn't 0
record Several (w : List ℕ) : Type 0 where
  some : 0 < length w
  first : 48 < get_or w 0 0

first_of : (b : Bool) (c n : ℕ) → 48 ≤ c → (n == 0 || not (c == 48)) ≡ true → 0 < n → 48 < c
first_of b c n low h some = grind arith

front_several : (x : ℕ) (ds : List ℕ) (c : ℕ) → IsNumber ((x ∷ ds) ++ c ∷ []) → Several (x ∷ ds)
front_several x ds c h =
    let both = and_parts (list_all is_ascii_digit (x ∷ (ds ++ c ∷ [])))
    (length (ds ++ c ∷ []) == 0 || not (x == 48)) h in
    let d = digit_of x (and_parts (is_ascii_digit x) (list_all is_ascii_digit (ds ++ c ∷ [])) both.0).0 in
    let more : 0 < length (ds ++ c ∷ []) = omega (arith, length_push ds c) in record {
      some = omega arith;
      first = first_of true x (length (ds ++ c ∷ [])) d.low both.1 more;
    }

front_number : (x : ℕ) (ds : List ℕ) (c : ℕ) → IsNumber ((x ∷ ds) ++ c ∷ []) → IsNumber (x ∷ ds)
front_number x ds c h =
    let s = front_several x ds c h in
    let all = (last_digit (x ∷ ds) c (digits ((x ∷ ds) ++ c ∷ []) h)).0 in
    and_from (list_all is_ascii_digit (x ∷ ds)) (length ds == 0 || not (x == 48)) all
    (either (length ds == 0) x s.first)
  where
    either : (b : Bool) (c : ℕ) → 48 < c → (b || not (c == 48)) ≡ true
    either true c h = refl
    either false c h = grind arith

-- such digits write at least 1
several_some : (x : ℕ) (w : List ℕ) → list_all is_ascii_digit (x ∷ w) ≡ true → 48 < x → 0 < value (x ∷ w)
several_some x w all first = by w all
  where
    grow : (w ds : List ℕ) (c : ℕ) → list_all is_ascii_digit (x ∷ w) ≡ true → x ∷ w ≡ (x ∷ ds) ++ c ∷ []
        → 0 < value (x ∷ ds) → 0 < value (x ∷ w)
    grow w ds c all e some =
        let d = last_digit (x ∷ ds) c (ap (λ (z : List ℕ). list_all is_ascii_digit z) (sym e) ∙ all) in
        let v = ap value e ∙ last_value (x ∷ ds) c d.1 in omega (arith, v, some)

    alone : list_all is_ascii_digit (x ∷ []) ≡ true → 0 < value (x ∷ [])
    alone all =
        let d = last_digit [] x all in
        let v = last_value [] x d.1 in omega (arith, v, first)

    some : (n : ℕ) (w : List ℕ) → length w ≤ n → list_all is_ascii_digit (x ∷ w) ≡ true → 0 < value (x ∷ w)
    some n [] less all = alone all
    some zero (y ∷ w) less all = absurd (omega (arith, less))
    some (suc n) (y ∷ w) less all =
        let l = last_of y w in
        let e : x ∷ (y ∷ w) ≡ (x ∷ l.front) ++ l.digit ∷ [] = ap (λ (z : List ℕ). x ∷ z) l.is in
        let size : length (y ∷ w) ≡ length l.front + 1 = ap length l.is ∙ length_push l.front l.digit in
        let d = last_digit (x ∷ l.front) l.digit (ap (λ (z : List ℕ). list_all is_ascii_digit z) (sym e) ∙ all) in
        grow (y ∷ w) l.front l.digit all e (some n l.front (omega (arith, less, size)) d.0)

    by : (w : List ℕ) → list_all is_ascii_digit (x ∷ w) ≡ true → 0 < value (x ∷ w)
    by w all = some (length w) w (omega arith) all

-- ---- what is printed of the number
IsOwn : ℕ → List ℕ → Type 0
IsOwn n ds = (w : List ℕ) → IsNumber w → value w ≡ n → w ≡ ds

-- a number of several digits, apart
record Apart (w : List ℕ) : Type 0 where
  front : List ℕ
  digit : ℕ
  is : w ≡ front ++ digit ∷ []
  number : IsNumber front
  last : IsDigit digit
  some : 0 < value front
  value_is : value w ≡ value front * 10 + (digit - 48)

record Alone (w : List ℕ) : Type 0 where
  digit : ℕ
  is : w ≡ digit ∷ []
  last : IsDigit digit
  value_is : value w ≡ digit - 48

apart_from : (x : ℕ) (ds : List ℕ) (c : ℕ) → IsNumber ((x ∷ ds) ++ c ∷ []) → Apart ((x ∷ ds) ++ c ∷ [])
apart_from x ds c h =
    let d = last_digit (x ∷ ds) c (digits ((x ∷ ds) ++ c ∷ []) h) in record {
      front = x ∷ ds;
      digit = c;
      is = refl;
      number = front_number x ds c h;
      last = d.1;
      some = several_some x ds d.0 (front_several x ds c h).first;
      value_is = last_value (x ∷ ds) c d.1;
    }

alone_from : (c : ℕ) → IsNumber (c ∷ []) → Alone (c ∷ [])
alone_from c h =
    let d = last_digit [] c (digits (c ∷ []) h) in
    let v = last_value [] c d.1 in record { digit = c; is = refl; last = d.1; value_is = omega (arith, v) }

number_cases : (w : List ℕ) → IsNumber w → Alone w ⊎ Apart w
number_cases [] h = cc
number_cases (x ∷ w) h =
    let l = last_of x w in
    subst (λ (z : List ℕ). Alone z ⊎ Apart z) (sym l.is)
    (by l.front l.digit (subst (λ (z : List ℕ). IsNumber z) l.is h))
  where
    by : (ds : List ℕ) (c : ℕ) → IsNumber (ds ++ c ∷ []) → Alone (ds ++ c ∷ []) ⊎ Apart (ds ++ c ∷ [])
    by [] c h = inl (alone_from c h)
    by (y ∷ ds) c h = inr (apart_from y ds c h)

one_digit : (n : ℕ) → n < 10 → IsOwn n ((48 + n) ∷ [])
unfolding IsOwn
one_digit n less w h e = by (number_cases w h)
  where
    by : Alone w ⊎ Apart w → w ≡ (48 + n) ∷ []
    by (inl a) =
        let low = a.last.low in
        let v = a.value_is in
        let same : a.digit ≡ 48 + n = omega (arith, v, e, low) in a.is ∙ ap (λ (c : ℕ). c ∷ []) same
    by (inr b) =
        let v = b.value_is in
        let some = b.some in absurd (omega (arith, v, e, some, less))

more_digits : (n : ℕ) (ds : List ℕ) → 10 ≤ n → IsOwn (n / 10) ds → IsOwn n (ds ++ ((48 + n % 10) ∷ []))
unfolding IsOwn
more_digits n ds large own w h e = by (number_cases w h)
  where
    by : Alone w ⊎ Apart w → w ≡ ds ++ ((48 + n % 10) ∷ [])
    by (inl a) =
        let high = a.last.high in
        let v = a.value_is in absurd (omega (arith, v, e, high, large))
    by (inr b) =
        let low = b.last.low in
        let high = b.last.high in
        let v = b.value_is in
        let front : value b.front ≡ n / 10 = omega (arith, v, e, low, high) in
        let digit : b.digit ≡ 48 + n % 10 = omega (arith, v, e, low, high) in
        b.is ∙ ap₂ (λ (xs : List ℕ) (c : ℕ). xs ++ c ∷ []) (own b.front b.number front) digit

-- a number is what is printed of its value
pub written_wide : (w : List ℕ) (n : ℕ) → IsNumber w → n < 10 ^ 64 → value w ≡ n → w ≡ decimal n
unfolding IsOwn
written_wide w n number less e = decimal_by_steps_wide IsOwn one_digit more_digits n less w number e

-- ---- and what is printed is a number
record IsFirst (n : ℕ) (ds : List ℕ) : Type 0 where
  some : 0 < length ds
  all : list_all is_ascii_digit ds ≡ true
  first : 0 < n → 48 < get_or ds 0 0

digit_plain : (n : ℕ) → n < 10 → is_ascii_digit (48 + n) ≡ true
digit_plain n less = grind arith

first_digit : (n : ℕ) → n < 10 → IsFirst n ((48 + n) ∷ [])
first_digit n less = record {
  some = omega arith;
  all = and_from (is_ascii_digit (48 + n)) true (digit_plain n less) refl;
  first = λ h. omega (arith, h);
}

all_push : (ds : List ℕ) (c : ℕ) → list_all is_ascii_digit ds ≡ true → is_ascii_digit c ≡ true
    → list_all is_ascii_digit (ds ++ c ∷ []) ≡ true
all_push [] c h e = and_from (is_ascii_digit c) true e refl
all_push (x ∷ ds) c h e =
    let both = and_parts (is_ascii_digit x) (list_all is_ascii_digit ds) h in
    and_from (is_ascii_digit x) (list_all is_ascii_digit (ds ++ c ∷ [])) both.0 (all_push ds c both.1 e)

first_more : (n : ℕ) (ds : List ℕ) → 10 ≤ n → IsFirst (n / 10) ds → IsFirst n (ds ++ ((48 + n % 10) ∷ []))
first_more n [] large h = absurd (omega (arith, h.some))
first_more n (x ∷ ds) large h = record {
  some = omega arith;
  all = all_push (x ∷ ds) (48 + n % 10) h.all (digit_plain (n % 10) (omega arith));
  first = λ some. h.first (omega (arith, large));
}

from_first : (n : ℕ) (ds : List ℕ) → 0 < n → IsFirst n ds → IsNumber ds
from_first n [] some h = absurd (omega (arith, h.some))
from_first n (x ∷ ds) some h =
    and_from (list_all is_ascii_digit (x ∷ ds)) (length ds == 0 || not (x == 48)) h.all
    (either (length ds == 0) x (h.first some))
  where
    either : (b : Bool) (c : ℕ) → 48 < c → (b || not (c == 48)) ≡ true
    either true c h = refl
    either false c h = grind arith

pub number_wide : (n : ℕ) → n < 10 ^ 64 → IsNumber (decimal n)
number_wide n less = by (cases_lt 0 n)
  where
    by : (0 < n) ⊎ (n ≤ 0) → IsNumber (decimal n)
    by (inl some) = from_first n (decimal n) some (decimal_by_steps_wide IsFirst first_digit first_more n less)
    by (inr none) =
        let e : 0 ≡ n = omega (arith, none) in subst (λ (k : ℕ). IsNumber (decimal k)) e (number_of 0 (omega arith))
