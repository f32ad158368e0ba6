-- Numbers rounded to multiples of a unit.
use Rattle.std.specs.Prelude.{ℕ, ℤ, pos, ◌+ℤ◌, ◌-ℤ◌, ◌*ℤ◌, ◌*◌}
use Rattle.std.specs.Int.{int_div_euclid}

-- the greatest whole number whose product with n is at most z, and the least whose product is at least z
abbrev pub floor_div : ℤ → ℕ → ℤ
floor_div z n = int_div_euclid z (pos n)

abbrev pub ceil_div : ℤ → ℕ → ℤ
ceil_div z n = floor_div (z +ℤ (pos n -ℤ pos 1)) n

-- z rounded down to a multiple of the unit
abbrev pub rounded_down : ℕ → ℤ → ℤ
rounded_down unit z = floor_div z unit *ℤ pos unit

-- z rounded to the nearest multiple of the unit, half upwards
abbrev pub nearest : ℕ → ℤ → ℤ
nearest unit z = floor_div (pos 2 *ℤ z +ℤ pos unit) (2 * unit) *ℤ pos unit
