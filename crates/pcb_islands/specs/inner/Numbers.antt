-- Sets of numbers, and places of numbers, whichever way they are kept.
use Rattle.std.specs.Prelude.{◌≡◌, ◌≢◌, ℕ, Bool, true, false, List, Contains, Option, Some, ◌⊎◌}
use Rattle.std.specs.Map.{lookup}
use Rattle.std.specs.Ordering.{nat_cmp}
use Rattle.std.specs.BTreeMap.{is_at}

-- new has the numbers of old and n, which is fresh where old hasn't it
pub record IsWith (old : List ℕ) (n : ℕ) (fresh : Bool) (new : List ℕ) : Type 0 where
  pub here : Contains new n
  pub kept : (q : ℕ) → Contains old q → Contains new q
  pub only : (q : ℕ) → Contains new q → Contains old q ⊎ (q ≡ n)
  pub fresh_is : fresh ≡ true → ¬ (Contains old n)
  pub stale_is : fresh ≡ false → Contains old n

-- the place of a number, if it has one
abbrev pub place_at : List (ℕ × ℕ) → ℕ → Option ℕ
place_at places n = lookup (is_at (nat_cmp n)) places

-- new has this place of n, and the places of all other numbers as old has them
pub record IsPlaced (old : List (ℕ × ℕ)) (n place : ℕ) (new : List (ℕ × ℕ)) : Type 0 where
  pub here : place_at new n ≡ Some place
  pub others : (q : ℕ) → q ≢ n → place_at new q ≡ place_at old q
