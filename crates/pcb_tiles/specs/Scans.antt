-- What a search over items, one after another, answers. Only private functions speak of it.
use Rattle.std.specs.Prelude.{◌≡◌, ℕ, ◌≤◌, Bool, ◌&&◌, leb, List, ◌∷◌, ◌++◌, All}
use Rattle.geo_kernel.specs.declared.point.Rect4.{Rect4}
use Rattle.pcb_model.specs.declared.item.Item.{Item}
use Rattle.pcb_tiles.specs.declared.block.Block.{Block}
use Rattle.pcb_tiles.specs.Tiling.{own_block}
use Rattle.pcb_tiles.specs.Searches.{Meets}

-- the blocks have a tile in common
abbrev pub share_tile : Block → Block → Bool
share_tile a b =
    (leb a.first_row b.last_row && leb b.first_row a.last_row)
    && (leb a.first_column b.last_column && leb b.first_column a.last_column)

-- the item has an entry in a tile of the block
abbrev pub is_entered : Rect4 → Block → Item → Bool
is_entered area b a = share_tile (own_block area a) b

-- the item isn't left out where its id isn't below another, and it has an entry in the block
pub record IsUnsought (No : Item → Type 0) (from : ℕ) (area : Rect4) (b : Block) (a : Item) : Type 0 where
  pub no : from ≤ a.id → Meets area b a → No a

-- the id is that of the first of the items that is sought
pub record IsFirstHit (Yes No : Item → Type 0) (from : ℕ) (area : Rect4) (b : Block) (items : List Item)
    (id : ℕ) : Type 0 where
  pub item : Item
  pub before : List Item
  pub after : List Item
  pub items_are : items ≡ before ++ item ∷ after
  pub passed : All (IsUnsought No from area b) before
  pub id_is : id ≡ item.id
  pub at_least : from ≤ item.id
  pub yes : Yes item
