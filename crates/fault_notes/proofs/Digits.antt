-- Digits at the front of bytes, as a number's text.
use Rattle.std.proofs.Common.{◌≡◌, ℕ, ◌<◌, ◌≤◌, ◌^◌, List, [], ◌∷◌, ◌++◌, length, take, drop, true, arith}
use Rattle.std.proofs.Common.{refl, ap, ◌∙◌, sym}
use Rattle.std.specs.Fmt.{decimal}
use Rattle.std.specs.Char.{is_ascii_digit}
use Rattle.std.specs.List.{prefix_len}
use Rattle.std.specs.Str.{IsUtf8, all_ascii_digits}
use Rattle.std.proofs.lemmas.Bool.{and_parts}
use Rattle.std.proofs.lemmas.List.{length-append, length-take-le, take_at, drop_at}
use Rattle.std.proofs.lemmas.Str.{IsUtf8-from_ascii}
use Rattle.std.proofs.lemmas.Str.Parse.{tells_all_ascii_digits, numerals_by_value}
use Rattle.std.proofs.lemmas.Fmt.{IsAscii-decimal_wide, decimal_is_IsNumeral_wide}
use Rattle.fault_notes.specs.inner.Numbers.{digit_count, EndsDigits}

pub fits_wide : (n : ℕ) → n < 2 ^ 128 → n < 10 ^ 64
fits_wide n small = omega arith

-- a number's text is text
pub decimal_is_text : (n : ℕ) → n < 2 ^ 128 → IsUtf8 (decimal n)
decimal_is_text n small = IsUtf8-from_ascii (decimal n) (IsAscii-decimal_wide n (fits_wide n small))

-- it is digits alone
all_digits : (n : ℕ) → n < 2 ^ 128 → all_ascii_digits (decimal n) ≡ true
all_digits n small =
    (numerals_by_value (λ ds. all_ascii_digits ds ≡ true) tells_all_ascii_digits).from (decimal n)
    (decimal_is_IsNumeral_wide n (fits_wide n small)).0.1

-- digits and then none: so many stand at the front
digits_before : (digits rest : List ℕ) → all_ascii_digits digits ≡ true → EndsDigits rest
    → prefix_len is_ascii_digit (digits ++ rest) ≡ length digits
digits_before [] [] all ends = refl
digits_before [] (c ∷ rest) all ends = simp ends
digits_before (c ∷ digits) rest all ends =
    let parts = and_parts (is_ascii_digit c) (all_ascii_digits digits) all in
    let here : is_ascii_digit c ≡ true = parts.0 in
    simp here (omega (arith, digits_before digits rest parts.1 ends))

-- the digits at the front of a number's text, and of what ends it, are the text
pub cut_digits : (n : ℕ) (rest bytes : List ℕ) (count : ℕ) → n < 2 ^ 128 → EndsDigits rest → bytes ≡ decimal n ++ rest
    → count ≡ digit_count bytes → (take count bytes ≡ decimal n) × (drop count bytes ≡ rest)
cut_digits n rest bytes count small ends is counted =
    let front : prefix_len is_ascii_digit bytes ≡ length (decimal n) =
    ap (prefix_len is_ascii_digit) is ∙ digits_before (decimal n) rest (all_digits n small) ends in
    let within : prefix_len is_ascii_digit bytes ≤ length bytes =
    omega (arith, front, length-append (decimal n) rest, ap (λ (xs : List ℕ). length xs) is) in
    let count_is : length (decimal n) ≡ count =
    sym (counted ∙ length-take-le (prefix_len is_ascii_digit bytes) bytes within ∙ front) in (
      ap (take count) is ∙ take_at (decimal n) rest count count_is,
      ap (drop count) is ∙ drop_at (decimal n) rest count count_is,
    )
