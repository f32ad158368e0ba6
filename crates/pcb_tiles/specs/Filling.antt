-- The entries of many items, put to their tiles at once. Only private functions speak of them.
use Rattle.std.specs.Prelude.{◌≡◌, ℕ, ◌≤◌, ◌<◌, Bool, List, map, filter}
use Rattle.std.specs.List.{range_with_len}
use Rattle.geo_kernel.specs.declared.point.Rect4.{Rect4}
use Rattle.pcb_model.specs.Bounds.{IsItemFit}
use Rattle.pcb_tiles.specs.declared.cells.Entry.{Entry}
use Rattle.pcb_tiles.specs.declared.fill.Along.{Along}
use Rattle.pcb_tiles.specs.declared.fill.Along.TheVariants.{Rows, Columns}
use Rattle.pcb_tiles.specs.Tiling.{columns_in, rows_in, own_block, is_between}
use Rattle.pcb_tiles.specs.Cells.{entry_of}

-- the entry is that of its item, which fits
pub record IsMade (e : Entry) : Type 0 where
  pub is : e ≡ entry_of e.item
  pub fits : IsItemFit e.item

-- how many rows or columns there are
abbrev pub count_along : Rect4 → Along → ℕ
count_along area Rows = rows_in area
count_along area Columns = columns_in area

-- the entry stands in this row, or this column
abbrev pub stands_at : Rect4 → Along → ℕ → Entry → Bool
stands_at area Rows k e = is_between (own_block area e.item).first_row (own_block area e.item).last_row k
stands_at area Columns k e = is_between (own_block area e.item).first_column (own_block area e.item).last_column k

-- the entry stands at the places from one to another, which there are
pub record IsRun (area : Rect4) (along : Along) (e : Entry) (first last : ℕ) : Type 0 where
  pub order : first ≤ last
  pub within : last < count_along area along
  pub at : (k : ℕ) → stands_at area along k e ≡ is_between first last k

-- the entries by the places where they stand
abbrev pub places_along : Rect4 → Along → List Entry → List (List Entry)
places_along area along entries =
    map (λ k. filter (stands_at area along k) entries) (range_with_len 0 (count_along area along))

-- the tiles of a row that has these entries
abbrev pub row_of_tiles : Rect4 → List Entry → List (List Entry)
row_of_tiles area entries = places_along area Columns entries
