-- What the private functions of `fraction` and `length` give.
use Rattle.std.specs.Prelude.{◌≡◌, ◌<◌, ◌≤◌, ◌+◌, ◌*◌, ◌/◌, ◌%◌, ◌^◌, ◌↔◌, ◌&&◌, ◌||◌, ◌==◌, nat_lt, ℕ, Bool, true}
use Rattle.std.specs.Prelude.{false, IsTrue, if◌then◌else◌}

-- twice n / d, rounded down, and whether it is exact
pub record IsHalves (n d count : ℕ) (exact : Bool) : Type 0 where
  pub low : count * d ≤ 2 * n
  pub high : 2 * n < (count + 1) * d
  pub whole : IsTrue exact ↔ (2 * n ≡ count * d)
  pub small : count < 2 ^ 50

-- half of a number of halves, to the nearest, where a negative one that is exact goes up
abbrev pub nearest_half : Bool → Bool → ℕ → ℕ
nearest_half negative exact count = if negative && exact then count / 2 else (count + 1) / 2

-- half of a number of halves, upwards
abbrev pub roof_half : Bool → ℕ → ℕ
roof_half exact count = if exact then (count + 1) / 2 else count / 2 + 1

-- whether a number of halves is above twice 10 ^ 12
abbrev pub is_past : Bool → ℕ → Bool
is_past exact count = nat_lt 2000000000000 count || (count == 2000000000000 && (if exact then false else true))

-- whether a number of halves isn't whole
abbrev pub is_odd : Bool → ℕ → Bool
is_odd exact count = (if exact then false else true) || (count % 2 == 1)
