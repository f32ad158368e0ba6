-- The decimal that a text spells, by cases on its bytes.
use Rattle.std.specs.Prelude.{◌==◌, ◌||◌, ◌&&◌, nat_le, ℕ, ℤ, pos, ◌-ℤ◌, Bool, true, false, List, [], ◌∷◌, ◌++◌, Option}
use Rattle.std.specs.Prelude.{Some, None, length, if◌then◌else◌}
use Rattle.std.specs.Char.{is_ascii_digit}
use Rattle.dsn_units.specs.declared.number.Decimal.{Decimal}
use Rattle.dsn_units.specs.Length.{signed}
use Rattle.dsn_units.specs.Spelling.{number_of}

-- whether a minus sign stands in front, and what stands behind the sign
abbrev pub sign_of : List ℕ → Bool × List ℕ
sign_of [] = (false, [])
sign_of (b ∷ bs) = if b == 45 then (true, bs) else (if b == 43 then (false, bs) else (false, b ∷ bs))

-- the digits in front, and what stands behind them
abbrev pub digits_of : List ℕ → List ℕ × List ℕ
digits_of [] = ([], [])
digits_of (b ∷ bs) = if is_ascii_digit b then (b ∷ (digits_of bs).0, (digits_of bs).1) else ([], b ∷ bs)

-- the digits behind a point, where one stands in front, and what stands behind them
abbrev pub fraction_of : List ℕ → List ℕ × List ℕ
fraction_of [] = ([], [])
fraction_of (b ∷ bs) = if b == 46 then digits_of bs else ([], b ∷ bs)

-- one or two digits to the end
abbrev pub small_number : Bool → List ℕ × List ℕ → Option ℤ
small_number negative (ds, []) =
    if nat_le 1 (length ds) && nat_le (length ds) 2 then Some (signed negative (number_of ds)) else None
small_number negative (ds, b ∷ bs) = None

abbrev pub signed_number : Bool × List ℕ → Option ℤ
signed_number s = small_number s.0 (digits_of s.1)

-- an exponent to the end, or nothing, which is 0
abbrev pub exponent_of : List ℕ → Option ℤ
exponent_of [] = Some (pos 0)
exponent_of (b ∷ bs) = if b == 101 || b == 69 then signed_number (sign_of bs) else None

-- the decimal of a sign, the digits before and behind the point, and an exponent
abbrev pub with_exponent : Bool → List ℕ → List ℕ → Option ℤ → Option Decimal
with_exponent negative whole fraction None = None
with_exponent negative whole fraction (Some e) =
    if nat_le 1 (length (whole ++ fraction)) && nat_le (length (whole ++ fraction)) 18
    then Some (record {
      negative = negative;
      digits = number_of (whole ++ fraction);
      exponent = e -ℤ pos (length fraction);
    }) else None

abbrev pub with_fraction : Bool → List ℕ → List ℕ × List ℕ → Option Decimal
with_fraction negative whole f = with_exponent negative whole f.0 (exponent_of f.1)

abbrev pub with_digits : Bool → List ℕ × List ℕ → Option Decimal
with_digits negative w = with_fraction negative w.0 (fraction_of w.1)

abbrev pub with_sign : Bool × List ℕ → Option Decimal
with_sign s = with_digits s.0 (digits_of s.1)

-- the decimal that a text spells
abbrev pub decimal_of : List ℕ → Option Decimal
decimal_of text = with_sign (sign_of text)
