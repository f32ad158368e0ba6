-- How a decimal is spelled: a sign, digits with a point among, before or behind them, and an exponent.
use Rattle.std.specs.Prelude.{◌≡◌, ◌+◌, ◌-◌, ◌*◌, ◌≤◌, ◌⊎◌, ℕ, ℤ, pos, ◌-ℤ◌, Bool, true, false, List, [], ◌∷◌, ◌++◌}
use Rattle.std.specs.Prelude.{Option, Some, None, length, fold}
use Rattle.std.specs.List.{list_all}
use Rattle.std.specs.Char.{is_ascii_digit}
use Rattle.dsn_units.specs.declared.number.Decimal.{Decimal}
use Rattle.dsn_units.specs.Length.{signed}

-- a sign may be left out
pub data Sign : Type 0 where
  bare : Sign
  plus : Sign
  minus : Sign

abbrev pub sign_text : Sign → List ℕ
sign_text bare = []
sign_text plus = 43 ∷ []
sign_text minus = 45 ∷ []

abbrev pub is_minus : Sign → Bool
is_minus bare = false
is_minus plus = false
is_minus minus = true

-- behind the letter `e` or `E`
pub record Exponent : Type 0 where
  pub letter : ℕ
  pub sign : Sign
  pub digits : List ℕ

-- `fraction` is what stands behind the point, where there is one
pub record Spelling : Type 0 where
  pub sign : Sign
  pub whole : List ℕ
  pub fraction : Option (List ℕ)
  pub exponent : Option Exponent

abbrev pub fraction_text : Option (List ℕ) → List ℕ
fraction_text None = []
fraction_text (Some digits) = 46 ∷ digits

abbrev pub exponent_text : Option Exponent → List ℕ
exponent_text None = []
exponent_text (Some e) = e.letter ∷ (sign_text e.sign ++ e.digits)

abbrev pub text_of : Spelling → List ℕ
text_of s = sign_text s.sign ++ (s.whole ++ (fraction_text s.fraction ++ exponent_text s.exponent))

abbrev pub fraction_digits : Option (List ℕ) → List ℕ
fraction_digits None = []
fraction_digits (Some digits) = digits

-- 1 to `most` ASCII digits
pub record AreDigits (most : ℕ) (digits : List ℕ) : Type 0 where
  pub digit : list_all is_ascii_digit digits ≡ true
  pub some : 1 ≤ length digits
  pub few : length digits ≤ most

abbrev pub IsExponent : Option Exponent → Type 0
IsExponent None = Unit {0}
IsExponent (Some e) = ((e.letter ≡ 101) ⊎ (e.letter ≡ 69)) × AreDigits 2 e.digits

-- one to 18 digits before the exponent, one or two in it
pub record IsSpelling (s : Spelling) : Type 0 where
  pub digits : AreDigits 18 (s.whole ++ fraction_digits s.fraction)
  pub exponent : IsExponent s.exponent

-- the number that digits spell behind others that spell n
abbrev pub number_on : ℕ → List ℕ → ℕ
number_on n digits = fold (λ n b. 10 * n + (b - 48)) n digits

abbrev pub number_of : List ℕ → ℕ
number_of digits = number_on 0 digits

abbrev pub exponent_value : Option Exponent → ℤ
exponent_value None = pos 0
exponent_value (Some e) = signed (is_minus e.sign) (number_of e.digits)

abbrev pub decimal_of_spelling : Spelling → Decimal
decimal_of_spelling s = record {
  negative = is_minus s.sign;
  digits = number_of (s.whole ++ fraction_digits s.fraction);
  exponent = exponent_value s.exponent -ℤ pos (length (fraction_digits s.fraction));
}

-- the text spells the decimal
pub record Spells (text : List ℕ) (d : Decimal) : Type 0 where
  pub spelling : Spelling
  pub is : IsSpelling spelling
  pub spelled : text ≡ text_of spelling
  pub value : d ≡ decimal_of_spelling spelling
