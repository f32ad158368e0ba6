-- Lengths of decimals, as fractions.
use Rattle.std.specs.Prelude.{◌*◌, ◌/◌, ◌%◌, ◌^◌, ◌&&◌, ◌||◌, nat_le, nat_lt, Bool, ℕ, ℤ, pos, negsuc, ◌+ℤ◌, ◌*ℤ◌}
use Rattle.std.specs.Prelude.{neg_ℤ, if◌then◌else◌, suc, Option, Some, None, unsigned_abs}
use Rattle.std.specs.Int.{int_div_euclid, int_rem_euclid, div_ceil}
use Rattle.dsn_units.specs.declared.angle.Angle.{Angle}
use Rattle.dsn_units.specs.declared.number.Decimal.{Decimal}

-- an exponent e stands for 10 ^ raised e / 10 ^ lowered e
abbrev pub raised : ℤ → ℕ
raised (pos n) = n
raised (negsuc n) = 0

abbrev pub lowered : ℤ → ℕ
lowered (pos n) = 0
lowered (negsuc n) = suc n

-- the decimal times `units` is top / bottom, with the decimal's sign
abbrev pub top : Decimal → ℕ → ℕ
top d units = d.digits * units * 10 ^ raised d.exponent

abbrev pub bottom : Decimal → ℕ
bottom d = 10 ^ lowered d.exponent

abbrev pub signed : Bool → ℕ → ℤ
signed negative n = if negative then neg_ℤ (pos n) else pos n

-- the whole part of n / d + 1/2: the nearest whole number, half upwards
abbrev pub nearest : ℤ → ℕ → ℤ
nearest n d = int_div_euclid ((pos 2 *ℤ n) +ℤ pos d) (pos (2 * d))

-- the decimal times `units`, to the nearest whole number
abbrev pub rounded : Decimal → ℕ → ℤ
rounded d units = nearest (signed d.negative (top d units)) (bottom d)

-- the decimal as a coordinate, of absolute value at most 2 ^ 29
abbrev pub coord_of : Decimal → ℕ → Option ℤ
coord_of d nm = if nat_le (unsigned_abs (rounded d nm)) (2 ^ 29) then Some (rounded d nm) else None

abbrev pub is_below_zero : Decimal → Bool
is_below_zero d = d.negative && nat_lt 0 d.digits

-- the decimal times `units`, rounded up, where it isn't below zero
abbrev pub raised_up : Decimal → ℕ → ℕ
raised_up d units = div_ceil (top d units) (bottom d)

-- the decimal as a width, from 0 to 2 ^ 28
abbrev pub extent_of : Decimal → ℕ → Option ℕ
extent_of d nm = if is_below_zero d || nat_lt (2 ^ 28) (raised_up d nm) then None else Some (raised_up d nm)

-- the decimal as degrees: whole microdegrees without whole turns, at most 1,000,000 degrees in absolute value
abbrev pub angle_of : Decimal → Option Angle
angle_of d = if nat_le (top d 1000000) (1000000000000 * bottom d)
    then Some (record { microdegrees = unsigned_abs (int_rem_euclid (rounded d 1000000) (pos 360000000)) }) else None

-- the decimal as a whole number from 0 to `most`
abbrev pub whole_of : Decimal → ℕ → Option ℕ
whole_of d most = if is_below_zero d || (nat_lt 0 (top d 1 % bottom d) || nat_lt most (top d 1 / bottom d)) then None
    else Some (top d 1 / bottom d)
