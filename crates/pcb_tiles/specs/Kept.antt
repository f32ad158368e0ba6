-- What tiles keep. Only private functions speak of it.
use Rattle.std.specs.Prelude.{◌≡◌, ℕ, ◌≤◌, ◌<◌, ◌^◌, List, All}
use Rattle.geo_kernel.specs.declared.point.Rect4.{Rect4}
use Rattle.pcb_model.specs.declared.item.Item.{Item}
use Rattle.pcb_model.specs.Bounds.{IsItemFit}
use Rattle.pcb_model.specs.Copper.{Ascends}
use Rattle.pcb_tiles.specs.declared.cells.Entry.{Entry}
use Rattle.pcb_tiles.specs.Tiling.{IsArea}
use Rattle.pcb_tiles.specs.Cells.{grid_of}
use Rattle.pcb_tiles.specs.Shelves.{flat, IsChunk}

-- chunks of items in order of id, whose entries stand in the tiles
pub record IsSpread (area : Rect4) (reach : ℕ) (shelf : List (List Item))
    (grid : List (List (List Entry))) : Type 0 where
  pub area_is : IsArea area
  pub reach_within : reach ≤ 2 ^ 28
  pub chunks : All IsChunk shelf
  pub ascends : Ascends (flat shelf)
  pub ids_within : All (λ (b : Item). b.id < 2 ^ 64) (flat shelf)
  pub fit : All IsItemFit (flat shelf)
  pub grid_is : grid ≡ grid_of area (flat shelf)
