-- New items on their ground.
use Rattle.std.specs.Prelude.{List}
use Rattle.pcb_model.specs.declared.item.Item.{Item}
use Rattle.route_lattice.specs.Ground.{GroundOf}

-- what they are to a caller
pub record NewItemsOf : Type 0 where
  pub on : GroundOf
  pub new : List Item
