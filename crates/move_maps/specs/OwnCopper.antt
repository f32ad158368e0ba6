-- The copper of a net itself, as windows of the lattice, and what a map says of a move beside it.
use Rattle.std.specs.Prelude.{◌≡◌, ℕ, ◌<◌, ◌≤◌, ◌⊎◌, List, true, Some, Contains}
use Rattle.pcb_model.specs.declared.item.Kind.TheVariants as kind
use Rattle.pcb_model.specs.declared.item.Item.{Item}
use Rattle.pcb_model.specs.declared.design.Design.{Design}
use Rattle.pcb_model.specs.Pairs.{meets_vias}
use Rattle.pcb_model.specs.Rules.{clearance_of}
use Rattle.route_lattice.specs.Mesh.{Mesh}
use Rattle.route_lattice.specs.Ways.{step_at, way}
use Rattle.route_lattice.specs.declared.moves.Move.{Move}
use Rattle.route_lattice.specs.declared.moves.Move.TheVariants.{Via}
use Rattle.move_maps.specs.declared.window.Window.{Window}
use Rattle.route_lattice.specs.Legal.{CanMove}
use Rattle.move_maps.specs.declared.map.GroupMap.{GroupMap}
use Rattle.move_maps.specs.Groups.{AreAlike}
use Rattle.move_maps.specs.Maps.{IsMapOf}
use Rattle.move_maps.specs.Paint.{CoverTogether}

-- an item of another net; if it is an smd pad, vias keep a clearance from it, so that none of them touches it
pub record IsForeign (d : Design) (g net : ℕ) (b : Item) : Type 0 where
  pub other : ¬ (b.net ≡ Some net)
  pub met : b.kind ≡ kind.Smd → meets_vias b.metal ≡ true
  pub apart : b.kind ≡ kind.Smd → 0 < clearance_of d (Some g) kind.Via b.net b.kind

-- each item is foreign, or the moves of the nodes out of all these windows are clear of it
pub record IsOwnCopper (d : Design) (m : Mesh) (items : List Item) (g net : ℕ) (ws : List Window) : Type 0 where
  pub each : (b : Item) → Contains items b → CoverTogether d m g b ws ⊎ IsForeign d g net b

-- so is each item below an id
pub record IsOwnBelow (d : Design) (m : Mesh) (items : List Item) (g net from : ℕ) (ws : List Window) : Type 0 where
  pub each : (b : Item) → Contains items b → b.id < from → CoverTogether d m g b ws ⊎ IsForeign d g net b

-- what the old windows cover the new ones do, and an item too that isn't foreign
pub record TakesOwn (d : Design) (m : Mesh) (g net : ℕ) (b : Item) (old new : List Window) : Type 0 where
  pub kept : (a : Item) → CoverTogether d m g a old → CoverTogether d m g a new
  pub taken : CoverTogether d m g b new ⊎ IsForeign d g net b

-- what the moves of a net by a map rest on: they can be made, and the map is that of the net's group, for the copper
pub record IsReadyMap (d : Design) (m : Mesh) (items : List Item) (net via_cost : ℕ) (g : GroupMap) : Type 0 where
  pub can_move : CanMove d m net via_cost
  pub map : IsMapOf d m items g
  pub alike : AreAlike d g.first net

-- move i of a node is a step, and it is there
pub record IsStepThere (d : Design) (m : Mesh) (net v i : ℕ) : Type 0 where
  pub is_step : i < 4
  pub to : Move × ℕ
  pub there : step_at m v i ≡ Some to
  pub way_is : way d m net v i ≡ Some to

-- move i of a node is a via, and it is there
pub record IsViaThere (d : Design) (m : Mesh) (net v i : ℕ) : Type 0 where
  pub is_via : 4 ≤ i
  pub padstack : ℕ
  pub layer : ℕ
  pub to : ℕ
  pub way_is : way d m net v i ≡ Some (Via padstack layer, to)
