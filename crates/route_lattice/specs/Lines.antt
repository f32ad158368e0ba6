-- The lines of one direction.
use Rattle.std.specs.Prelude.{◌≡◌, ℕ, zero, suc, ℤ, pos, ◌+ℤ◌, ◌*ℤ◌, ◌<ℤ◌, List, [], ◌∷◌, filter, Bool, ◌||◌, ◌⊎◌}
use Rattle.std.specs.Prelude.{Contains}
use Rattle.std.specs.Ordering.{int_eq, int_cmp}
use Rattle.std.specs.List.Sorted.{IsStrictlySortedBy}
use Rattle.std.specs.List.{list_any}
use Rattle.std.specs.Int.{int_gap}
use Rattle.route_lattice.specs.Round.{ceil_div, rounded_down}

-- x is a multiple of the grid, rounded down to the unit
abbrev pub IsGridLine : ℕ → ℕ → ℤ → Type 0
IsGridLine unit grid x = (k : ℤ) × (rounded_down unit (k *ℤ pos grid) ≡ x)

-- x lies strictly between low and high, and is a line of the grid or one of the anchors
pub record IsLine (unit grid : ℕ) (low high : ℤ) (anchors : List ℤ) (x : ℤ) : Type 0 where
  pub above : low <ℤ x
  pub below : x <ℤ high
  pub is : IsGridLine unit grid x ⊎ Contains anchors x

-- xs are the lines, ascending, each once
pub record AreLines (unit grid : ℕ) (low high : ℤ) (anchors xs : List ℤ) : Type 0 where
  pub ascends : IsStrictlySortedBy int_cmp xs
  pub sound : (x : ℤ) → Contains xs x → IsLine unit grid low high anchors x
  pub complete : (x : ℤ) → IsLine unit grid low high anchors x → Contains xs x

-- ---- the lines as a list: each whole number strictly between low and high is tested
-- n whole numbers, from z on
abbrev pub up_from : ℤ → ℕ → List ℤ
up_from z zero = []
up_from z (suc n) = z ∷ up_from (z +ℤ pos 1) n

abbrev pub between : ℤ → ℤ → List ℤ
between low high = up_from (low +ℤ pos 1) (int_gap (low +ℤ pos 1) high)

-- the least multiple of the grid that isn't below x, rounded down, is x
abbrev pub is_grid_line : ℕ → ℕ → ℤ → Bool
is_grid_line unit grid x = int_eq (rounded_down unit (ceil_div x grid *ℤ pos grid)) x

abbrev pub line_list : ℕ → ℕ → ℤ → ℤ → List ℤ → List ℤ
line_list unit grid low high anchors =
    filter (λ x. is_grid_line unit grid x || list_any (λ a. int_eq a x) anchors) (between low high)
