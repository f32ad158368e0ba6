-- The square tiles of an area, and the block of tiles that a box meets.
use Rattle.std.specs.Prelude.{◌≡◌, ℕ, ℤ, pos, ◌+◌, ◌-◌, ◌/◌, ◌≤◌, ◌<◌, ◌^◌, ◌+ℤ◌, ◌-ℤ◌, ◌≤ℤ◌, Bool, ◌&&◌, leb, max}
use Rattle.std.specs.Prelude.{unsigned_abs, List, suc}
use Rattle.std.specs.Int.{int_min, int_max}
use Rattle.std.specs.List.{range_with_len, count_by, sum_by}
use Rattle.geo_kernel.specs.declared.point.Rect4.{Rect4}
use Rattle.pcb_model.specs.declared.item.Item.{Item}
use Rattle.pcb_model.specs.declared.item.Probe.{Probe}
use Rattle.pcb_model.specs.declared.design.Design.{Design}
use Rattle.pcb_model.specs.Pieces.{pieces_of, metal_of}
use Rattle.pcb_model.specs.Near.{IsBoxWithin, box_of_points, vertices_of, greatest_width}
use Rattle.pcb_tiles.specs.declared.block.Block.{Block}

-- the number of the tile that holds a coordinate: tile 1000 is the first whose coordinates aren't negative
abbrev pub tile_of : ℤ → ℕ
tile_of z = unsigned_abs (z +ℤ pos 2000000000) / 2000000

-- the nearest value from lo to hi
abbrev pub clamped : ℤ → ℤ → ℤ → ℤ
clamped lo hi z = int_max (int_min z hi) lo

-- where the tile of the nearest coordinate from lo to hi stands, counted from the tile of lo
abbrev pub place_of : ℤ → ℤ → ℤ → ℕ
place_of lo hi z = tile_of (clamped lo hi z) - tile_of lo

-- how many tiles there are from lo to hi
abbrev pub count_of : ℤ → ℤ → ℕ
count_of lo hi = tile_of hi - tile_of lo + 1

abbrev pub columns_in : Rect4 → ℕ
columns_in area = count_of area.x0 area.x1

abbrev pub rows_in : Rect4 → ℕ
rows_in area = count_of area.y0 area.y1

-- an area that tiles may have
pub record IsArea (area : Rect4) : Type 0 where
  pub x_rises : area.x0 ≤ℤ area.x1
  pub y_rises : area.y0 ≤ℤ area.y1
  pub within : IsBoxWithin (2 ^ 29) area

-- the tiles of the area that a box grown on each side meets, or that are nearest to it: never none
abbrev pub block_of : Rect4 → Rect4 → ℕ → Block
block_of area box by =
    let column = place_of area.x0 area.x1 (box.x0 -ℤ pos by) in
    let row = place_of area.y0 area.y1 (box.y0 -ℤ pos by) in
    record {
      first_column = column;
      last_column = max (place_of area.x0 area.x1 (box.x1 +ℤ pos by)) column;
      first_row = row;
      last_row = max (place_of area.y0 area.y1 (box.y1 +ℤ pos by)) row;
    }

-- the block is that of a box grown by so much
pub record IsBlockOf (area box : Rect4) (by : ℕ) (b : Block) : Type 0 where
  pub is : b ≡ block_of area box by

abbrev pub is_between : ℕ → ℕ → ℕ → Bool
is_between first last i = leb first i && leb i last

-- the tile is in the block
abbrev pub is_in : Block → ℕ → ℕ → Bool
is_in b column row = is_between b.first_column b.last_column column && is_between b.first_row b.last_row row

abbrev pub columns_of : Block → List ℕ
columns_of b = range_with_len b.first_column (suc b.last_column - b.first_column)

abbrev pub rows_of : Block → List ℕ
rows_of b = range_with_len b.first_row (suc b.last_row - b.first_row)

-- the block has a tile, and all its tiles are the area's
pub record IsBlockIn (area : Rect4) (b : Block) : Type 0 where
  pub columns : b.first_column ≤ b.last_column
  pub order : b.first_row ≤ b.last_row
  pub columns_within : b.last_column < columns_in area
  pub rows_within : b.last_row < rows_in area

-- half of a width, rounded up
abbrev pub half_up : ℕ → ℕ
half_up w = (w + 1) / 2

-- the tiles in which an item has an entry: those that the box of its spines, grown by half its greatest width, meets
abbrev pub own_block : Rect4 → Item → Block
own_block area a = block_of area (box_of_points (vertices_of a.pieces)) (half_up (greatest_width a.pieces))

abbrev pub has_entry : Rect4 → ℕ → ℕ → Item → Bool
has_entry area row column a = is_in (own_block area a) column row

-- the tiles that an asked item's box, grown by the reach and its greatest width, meets
abbrev pub asked_block : Rect4 → ℕ → Item → Block
asked_block area reach a = block_of area (box_of_points (vertices_of a.pieces)) (reach + greatest_width a.pieces)

-- the tiles that a probe's box, grown by the reach and half its greatest width, meets
abbrev pub probed_block : Rect4 → ℕ → Design → Probe → Block
probed_block area reach d p =
    let ps = pieces_of d (metal_of p) in
    block_of area (box_of_points (vertices_of ps)) (reach + half_up (greatest_width ps))

-- how many entries stand in a block of tiles
abbrev pub entries_in : Rect4 → List Item → Block → ℕ
entries_in area items b =
    sum_by (λ row. sum_by (λ column. count_by (has_entry area row column) items) (columns_of b)) (rows_of b)
