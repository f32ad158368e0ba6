-- The maps that tell of moves past routed items.
use Rattle.std.specs.Prelude.{ℕ, List}
use Rattle.pcb_model.specs.declared.item.Item.{Item}
use Rattle.pcb_model.specs.declared.design.Design.{Design}
use Rattle.route_lattice.specs.Mesh.{Mesh}
use Rattle.move_maps.specs.declared.window.Window.{Window}
use Rattle.move_maps.specs.declared.map.GroupMap.{GroupMap}
use Rattle.move_maps.specs.Groups.{AreAlike}
use Rattle.move_maps.specs.Maps.{IsMapOf}
use Rattle.move_maps.specs.OwnCopper.{IsOwnCopper}

-- the map of the net's group for the items, that for the design's fixed items alone, and windows round the net's own
-- copper
pub record AreRipMaps (d : Design) (m : Mesh) (items : List Item) (net : ℕ) (map fixed : GroupMap) (own : List Window)
    : Type 0 where
  pub map_is : IsMapOf d m items map
  pub alike : AreAlike d map.first net
  pub fixed_is : IsMapOf d m d.fixed fixed
  pub fixed_alike : AreAlike d fixed.first net
  pub own_is : IsOwnCopper d m items map.first net own
