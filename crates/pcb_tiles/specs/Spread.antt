-- Copper spread over tiles, as contracts see it.
use Rattle.std.specs.Prelude.{◌≡◌, ℕ, List}
use Rattle.geo_kernel.specs.declared.point.Rect4.{Rect4}
use Rattle.pcb_model.specs.declared.item.Item.{Item}
use Rattle.pcb_model.specs.declared.design.Design.{Design}
use Rattle.pcb_model.specs.Bounds.{HasClearancesWithin}
use Rattle.pcb_model.specs.Sound.{Serves}
use Rattle.pcb_model.specs.Copper.{Removes}

-- the items, in order of id, with the area that has tiles and the reach of the clearances
pub record Spread : Type 0 where
  pub area : Rect4
  pub reach : ℕ
  pub items : List Item

-- the same area and reach with other items
abbrev pub holding : Spread → List Item → Spread
holding t items = record { area = t.area; reach = t.reach; items = items }

-- the new copper is the old one with an item more
pub record Gains (old : Spread) (a : Item) (new : Spread) : Type 0 where
  pub same_area : new.area ≡ old.area
  pub same_reach : new.reach ≡ old.reach
  pub items : Removes new.items a old.items

-- or with one less
pub record Loses (old : Spread) (a : Item) (new : Spread) : Type 0 where
  pub same_area : new.area ≡ old.area
  pub same_reach : new.reach ≡ old.reach
  pub items : Removes old.items a new.items

-- the copper holds what belongs to the design, and its reach is that of the design's clearances
pub record ServesSpread (t : Spread) (d : Design) : Type 0 where
  pub serves : Serves t.items d
  pub reaches : HasClearancesWithin t.reach d
