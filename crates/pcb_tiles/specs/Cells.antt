-- The entries of the tiles, row by row. Only private functions speak of them.
use Rattle.std.specs.Prelude.{ℕ, cond, not, eqb, ltb, List, [], ◌∷◌, ◌++◌, map, filter, length}
use Rattle.std.specs.Prelude.{slice_index_or}
use Rattle.std.specs.List.{range_with_len}
use Rattle.geo_kernel.specs.declared.point.Rect4.{Rect4}
use Rattle.pcb_model.specs.declared.item.Item.{Item}
use Rattle.pcb_model.specs.Near.{extent_of}
use Rattle.pcb_tiles.specs.declared.block.Block.{Block}
use Rattle.pcb_tiles.specs.declared.cells.Entry.{Entry}
use Rattle.pcb_tiles.specs.declared.cells.Change.{Change}
use Rattle.pcb_tiles.specs.declared.cells.Change.TheVariants.{Put, Drop}
use Rattle.pcb_tiles.specs.Tiling.{columns_in, rows_in, has_entry, is_between}

-- an item's entry
abbrev pub entry_of : Item → Entry
entry_of a = record { id = a.id; extent = extent_of a.pieces; item = a }

-- the entries of one tile, in order of id where the items are
abbrev pub entries_at : Rect4 → List Item → ℕ → ℕ → List Entry
entries_at area items row column = map entry_of (filter (has_entry area row column) items)

abbrev pub row_at : Rect4 → List Item → ℕ → List (List Entry)
row_at area items row = map (entries_at area items row) (range_with_len 0 (columns_in area))

-- all tiles of the area
abbrev pub grid_of : Rect4 → List Item → List (List (List Entry))
grid_of area items = map (row_at area items) (range_with_len 0 (rows_in area))

-- ---- changes
-- the items with one more, in order of id
abbrev pub with_item : Item → List Item → List Item
with_item a items = filter (λ (b : Item). ltb b.id a.id) items ++ a ∷ filter (λ (b : Item). ltb a.id b.id) items

-- the items without the one of this id
abbrev pub without_item : ℕ → List Item → List Item
without_item id items = filter (λ (b : Item). not (eqb b.id id)) items

abbrev pub with_entry : Entry → List Entry → List Entry
with_entry e cell = filter (λ (f : Entry). ltb f.id e.id) cell ++ e ∷ filter (λ (f : Entry). ltb e.id f.id) cell

abbrev pub without_entry : ℕ → List Entry → List Entry
without_entry id cell = filter (λ (f : Entry). not (eqb f.id id)) cell

abbrev pub changed_cell : Change → List Entry → List Entry
changed_cell (Put e) cell = with_entry e cell
changed_cell (Drop id) cell = without_entry id cell

abbrev pub cell_at : List (List Entry) → ℕ → List Entry
cell_at row column = slice_index_or row column []

abbrev pub row_in : List (List (List Entry)) → ℕ → List (List Entry)
row_in grid row = slice_index_or grid row []

-- a row whose cells in the block are changed
abbrev pub next_cell : Change → Block → List (List Entry) → ℕ → List Entry
next_cell change b row column =
    cond (is_between b.first_column b.last_column column) (changed_cell change (cell_at row column))
    (cell_at row column)

abbrev pub changed_row : Change → Block → List (List Entry) → List (List Entry)
changed_row change b row = map (next_cell change b row) (range_with_len 0 (length row))

-- tiles of which those in the block are changed
abbrev pub next_row : Change → Block → List (List (List Entry)) → ℕ → List (List Entry)
next_row change b grid row =
    cond (is_between b.first_row b.last_row row) (changed_row change b (row_in grid row)) (row_in grid row)

abbrev pub changed_grid : Change → Block → List (List (List Entry)) → List (List (List Entry))
changed_grid change b grid = map (next_row change b grid) (range_with_len 0 (length grid))
