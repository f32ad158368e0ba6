-- Digits at the front of bytes.
use Rattle.std.specs.Prelude.{◌≡◌, ℕ, List, false, length, slice_index, take_while}
use Rattle.std.specs.Char.{is_ascii_digit}

-- how many digits stand at the front
abbrev pub digit_count : List ℕ → ℕ
digit_count bytes = length (take_while is_ascii_digit bytes)

-- there is none at the front
abbrev pub EndsDigits : List ℕ → Type 0
EndsDigits rest = is_ascii_digit (slice_index rest 0) ≡ false
