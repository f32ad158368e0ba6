-- What is known of a board when its report is judged.
use Rattle.std.specs.Prelude.{◌≡◌, List}
use Rattle.pcb_model.specs.declared.item.Item.{Item}
use Rattle.pcb_model.specs.declared.design.Design.{Design}
use Rattle.pcb_model.specs.Copper.{Ascends}
use Rattle.pcb_model.specs.Sound.{IsSound, Serves}
use Rattle.pcb_tiles.specs.Spread.{Spread, ServesSpread}
use Rattle.pcb_islands.specs.declared.net.Island.{Island}
use Rattle.copper_check.specs.Checks.{AreAllIslands}

-- the items belong to the sound design and stand in order of id, the tiles hold them, and these are the islands on them
pub record IsFound (d : Design) (tiles : Spread) (items : List Item) (found : List (List Island)) : Type 0 where
  pub sound : IsSound d
  pub same_items : tiles.items ≡ items
  pub spread : ServesSpread tiles d
  pub ascends : Ascends items
  pub serves : Serves items d
  pub islands : AreAllIslands d items found
