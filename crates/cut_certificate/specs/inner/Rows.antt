-- How marks are kept: in rows of nodes, of which those without a marked node keep none.
use Rattle.std.specs.Prelude.{◌≡◌, ℕ, ◌+◌, ◌/◌, ◌%◌, List, [], length, map, slice_index_or, Bool, true, false, ◌⊎◌}
use Rattle.std.specs.List.{range_with_len}
use Rattle.cut_certificate.specs.declared.marks.TheConstants.{ROW}

-- a row keeps no marks, or one for each of its nodes
abbrev pub IsRow : List Bool → Type 0
IsRow row = (length row ≡ 0) ⊎ (length row ≡ ROW)

-- the mark at a place of the row is set, and the others are as they were
pub record IsSetIn (at : ℕ) (old new : List Bool) : Type 0 where
  pub here : slice_index_or new at false ≡ true
  pub others : (u : ℕ) → (u ≡ at → ⊥) → slice_index_or new u false ≡ slice_index_or old u false

-- there are so many rows, and none keeps marks
pub record AreBlank (count : ℕ) (rows : List (List Bool)) : Type 0 where
  pub size : length rows ≡ count
  pub blank : (k : ℕ) → slice_index_or rows k [] ≡ []

-- a node's mark, which isn't set where its row keeps none
unfoldable pub mark_in : List (List Bool) → ℕ → Bool
mark_in rows v = slice_index_or (slice_index_or rows (v / ROW) []) (v % ROW) false

-- the marks of the nodes below count
unfoldable pub marks_of : ℕ → List (List Bool) → List Bool
marks_of count rows = map (mark_in rows) (range_with_len 0 count)

-- there is a row for each node below count
abbrev pub AreRowsOf : ℕ → List (List Bool) → Type 0
AreRowsOf count rows = length rows ≡ count / ROW + 1
