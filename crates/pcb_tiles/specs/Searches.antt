-- What a search through tiles knows on its way. Only private functions speak of it.
use Rattle.std.specs.Prelude.{◌≡◌, ℕ, ◌≤◌, ◌<◌, ◌^◌, List, Option, Some, None, All, Contains, true, ◌⊎◌, suc, length}
use Rattle.pcb_model.specs.declared.item.Item.{Item}
use Rattle.pcb_model.specs.declared.item.Piece.{Piece}
use Rattle.pcb_model.specs.declared.design.Design.{Design}
use Rattle.pcb_model.specs.declared.near.Extent.{Extent}
use Rattle.pcb_model.specs.Bounds.{IsItemFit, IsDesignFit, HasClearancesWithin}
use Rattle.pcb_model.specs.Near.{IsExtentOf}
use Rattle.pcb_tiles.specs.declared.block.Block.{Block}
use Rattle.pcb_tiles.specs.declared.cells.Entry.{Entry}
use Rattle.geo_kernel.specs.declared.point.Rect4.{Rect4}
use Rattle.pcb_tiles.specs.Tiling.{has_entry}
use Rattle.pcb_tiles.specs.Cells.{cell_at, row_in}

-- the id is below the best one, if there is one
abbrev pub IsUnder : Option ℕ → ℕ → Type 0
IsUnder None id = Unit {0}
IsUnder (Some best) id = id < best

-- what is below the new best id was below the old one
pub record Falls (new old : Option ℕ) : Type 0 where
  pub under : (id : ℕ) → IsUnder new id → IsUnder old id

-- what a search for what disagrees keeps of the pieces that it asks about
pub record IsAsking (d : Design) (reach : ℕ) (ps : List Piece) (e : Extent) : Type 0 where
  pub design_fits : IsDesignFit d
  pub reaches : HasClearancesWithin reach d
  pub reach_within : reach ≤ 2 ^ 28
  pub extent_is : IsExtentOf ps e

-- what an entry tells of its item is so
pub record IsEntry (e : Entry) : Type 0 where
  pub id_is : e.id ≡ e.item.id
  pub item_fits : IsItemFit e.item
  pub extent_is : IsExtentOf e.item.pieces e.extent

-- a row of tiles with such entries, and a block whose columns it has
pub record HasColumns (row : List (List Entry)) (b : Block) : Type 0 where
  pub entries : All (All IsEntry) row
  pub within : b.last_column < length row
  pub columns : b.first_column ≤ b.last_column

-- rows of tiles with such entries, and a block that lies in them
pub record HasBlock (rows : List (List (List Entry))) (b : Block) : Type 0 where
  pub entries : All (All (All IsEntry)) rows
  pub wide : All (λ (row : List (List Entry)). b.last_column < length row) rows
  pub within : b.last_row < length rows
  pub columns : b.first_column ≤ b.last_column
  pub order : b.first_row ≤ b.last_row

-- the entry is sought, from an id on and under the best one
pub record IsBetter (Yes : Item → Type 0) (from : ℕ) (best : Option ℕ) (e : Entry) : Type 0 where
  pub at_least : from ≤ e.id
  pub under : IsUnder best e.id
  pub yes : Yes e.item

-- no entry from an id on, and under the best one, is left out
pub record IsPassed (No : Item → Type 0) (from : ℕ) (best : Option ℕ) (e : Entry) : Type 0 where
  pub no : from ≤ e.id → IsUnder best e.id → No e.item

-- the best id is that of an entry among these
pub record IsFoundIn (Yes : Item → Type 0) (from : ℕ) (best : Option ℕ) (cell : List Entry) : Type 0 where
  pub entry : Entry
  pub there : Contains cell entry
  pub best_is : best ≡ Some entry.id
  pub at_least : from ≤ entry.id
  pub yes : Yes entry.item

-- what is known of the best id after some entries, from the best one at the start
pub record CellSoFar (Yes No : Item → Type 0) (from : ℕ) (start best : Option ℕ) (cell : List Entry) : Type 0 where
  pub falls : Falls best start
  pub passed : All (IsPassed No from best) cell
  pub found : (best ≡ start) ⊎ IsFoundIn Yes from best cell

pub record IsFoundInRow (Yes : Item → Type 0) (from : ℕ) (best : Option ℕ) (row : List (List Entry))
    (first end : ℕ) : Type 0 where
  pub column : ℕ
  pub from_first : first ≤ column
  pub to_end : column < end
  pub found : IsFoundIn Yes from best (cell_at row column)

-- the same after the cells of a row from a column to before another
pub record RowSoFar (Yes No : Item → Type 0) (from : ℕ) (start best : Option ℕ) (row : List (List Entry))
    (first end : ℕ) : Type 0 where
  pub falls : Falls best start
  pub passed : (column : ℕ) → first ≤ column → column < end → All (IsPassed No from best) (cell_at row column)
  pub found : (best ≡ start) ⊎ IsFoundInRow Yes from best row first end

pub record IsFoundInRows (Yes : Item → Type 0) (from : ℕ) (best : Option ℕ) (grid : List (List (List Entry)))
    (b : Block) (end : ℕ) : Type 0 where
  pub row : ℕ
  pub from_first : b.first_row ≤ row
  pub to_end : row < end
  pub found : IsFoundInRow Yes from best (row_in grid row) b.first_column (suc b.last_column)

-- and after the rows of a block, up to before one
pub record RowsSoFar (Yes No : Item → Type 0) (from : ℕ) (best : Option ℕ) (grid : List (List (List Entry)))
    (b : Block) (end : ℕ) : Type 0 where
  pub passed : (row column : ℕ) → b.first_row ≤ row → row < end → b.first_column ≤ column → column < suc b.last_column
      → All (IsPassed No from best) (cell_at (row_in grid row) column)
  pub found : (best ≡ None) ⊎ IsFoundInRows Yes from best grid b end

-- an entry among these is one of which Yes holds
pub record IsMetIn (Yes : Item → Type 0) (cell : List Entry) : Type 0 where
  pub entry : Entry
  pub there : Contains cell entry
  pub yes : Yes entry.item

-- one in the cells of a row from a column to before another
pub record IsMetInRow (Yes : Item → Type 0) (row : List (List Entry)) (first end : ℕ) : Type 0 where
  pub column : ℕ
  pub from_first : first ≤ column
  pub to_end : column < end
  pub met : IsMetIn Yes (cell_at row column)

-- one in a block of tiles
pub record IsMetInRows (Yes : Item → Type 0) (grid : List (List (List Entry))) (b : Block) : Type 0 where
  pub row : ℕ
  pub from_first : b.first_row ≤ row
  pub to_end : row < suc b.last_row
  pub met : IsMetInRow Yes (row_in grid row) b.first_column (suc b.last_column)

-- No holds of each entry of the cells of a row from a column to before another
pub record IsRowPassed (No : Item → Type 0) (row : List (List Entry)) (first end : ℕ) : Type 0 where
  pub each : (column : ℕ) → first ≤ column → column < end → All (IsPassed No 0 None) (cell_at row column)

-- and of those in the rows of a block, up to before one
pub record AreRowsPassed (No : Item → Type 0) (grid : List (List (List Entry))) (b : Block) (end : ℕ) : Type 0 where
  pub each : (row : ℕ) → b.first_row ≤ row → row < end
      → IsRowPassed No (row_in grid row) b.first_column (suc b.last_column)

-- an item is one of which Yes holds
pub record IsMet (Yes : Item → Type 0) (items : List Item) : Type 0 where
  pub item : Item
  pub there : Contains items item
  pub yes : Yes item

-- the item has an entry in a tile of the block
pub record Meets (area : Rect4) (b : Block) (a : Item) : Type 0 where
  pub row : ℕ
  pub column : ℕ
  pub from_row : b.first_row ≤ row
  pub to_row : row ≤ b.last_row
  pub from_column : b.first_column ≤ column
  pub to_column : column ≤ b.last_column
  pub has : has_entry area row column a ≡ true

-- the answer is the id of an item of which Yes holds
pub record IsHit (Yes : Item → Type 0) (from : ℕ) (items : List Item) (answer : Option ℕ) : Type 0 where
  pub item : Item
  pub there : Contains items item
  pub answer_is : answer ≡ Some item.id
  pub at_least : from ≤ item.id
  pub yes : Yes item

-- what a search through a block of tiles answers
pub record Sought (Yes No : Item → Type 0) (from : ℕ) (area : Rect4) (b : Block) (items : List Item)
    (answer : Option ℕ) : Type 0 where
  pub passed : (a : Item) → Contains items a → from ≤ a.id → IsUnder answer a.id → Meets area b a → No a
  pub found : (answer ≡ None) ⊎ IsHit Yes from items answer
