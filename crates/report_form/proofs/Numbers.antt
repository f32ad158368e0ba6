-- What is printed as a number is one.
use Rattle.std.proofs.Common.{◌≡◌, inl, inr, ℕ, ◌^◌, ◌<◌, Bool, true, false, not, ◌||◌, ◌==◌}
use Rattle.std.proofs.Common.{List, [], ◌∷◌, length, get_or}
use Rattle.std.proofs.Common.{refl, sym, ap, ◌∙◌, subst, arith}
use Rattle.std.specs.Prelude.{decimal}
use Rattle.std.specs.List.{list_all}
use Rattle.std.specs.Char.{is_ascii_digit}
use Rattle.std.specs.Str.Parse.{AllDigits}
use Rattle.std.proofs.lemmas.Fmt.{decimal_is_IsNumeral, decimal_digit, first_decimal, decimal_nonempty}
use Rattle.std.proofs.lemmas.Bool.{and_from, cases_lt}
use Rattle.std.proofs.lemmas.Str.Parse.{digit_from_value}
use Rattle.report_form.specs.Form.{IsNumber, value}

all_digits : (ds : List ℕ) → AllDigits 10 ds → list_all is_ascii_digit ds ≡ true
all_digits [] h = refl
all_digits (d ∷ ds) h =
    let r = digit_from_value d h.0 in
    and_from (is_ascii_digit d) (list_all is_ascii_digit ds) (grind arith) (all_digits ds h.1)

by_parts : (w : List ℕ) → 0 < length w → list_all is_ascii_digit w ≡ true → 48 < get_or w 0 0 → IsNumber w
by_parts [] some all first = absurd (omega arith)
by_parts (c ∷ cs) some all first =
    and_from (list_all is_ascii_digit (c ∷ cs)) (length cs == 0 || not (c == 48)) all
    (either (length cs == 0) c first)
  where
    either : (b : Bool) (c : ℕ) → 48 < c → (b || not (c == 48)) ≡ true
    either true c h = refl
    either false c h = grind arith

pub number_of : (n : ℕ) → n < 2 ^ 64 → IsNumber (decimal n)
number_of n h = elim (cases_lt 0 n) [
  | inl some ↦ by_parts (decimal n) (decimal_nonempty n h) (all_digits (decimal n) (decimal_is_IsNumeral n h).0.1)
      (first_decimal n some h)
  | inr none ↦ let e : n ≡ 0 = omega arith in
      subst (λ (w : List ℕ). IsNumber w) (sym (ap decimal e ∙ decimal_digit 0 (omega arith))) refl
]

pub value_of : (n : ℕ) → n < 2 ^ 64 → value (decimal n) ≡ n
value_of n h = (decimal_is_IsNumeral n h).1
