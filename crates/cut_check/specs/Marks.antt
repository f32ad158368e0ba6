-- Marks on nodes.
use Rattle.std.specs.Prelude.{◌≡◌, ℕ, Bool, true, List, length, slice_get, Some}

abbrev pub IsMarked : List Bool → ℕ → Type 0
IsMarked marks v = slice_get marks v ≡ Some true

-- marks for so many nodes, of which none is set
pub record IsBlank (count : ℕ) (marks : List Bool) : Type 0 where
  pub size : length marks ≡ count
  pub none : (v : ℕ) → IsMarked marks v → ⊥
