-- The ground of calls about a lattice.
use Rattle.std.specs.Prelude.{List}
use Rattle.pcb_model.specs.declared.item.Item.{Item}
use Rattle.pcb_model.specs.declared.copper.Copper.{Ghosts}
use Rattle.pcb_model.specs.declared.design.Design.{Design}
use Rattle.pcb_model.specs.Copper.{Ascends}
use Rattle.pcb_model.specs.Sound.{IsSound}
use Rattle.route_lattice.specs.Mesh.{Mesh}
use Rattle.route_lattice.specs.Fits.{FitsDesign}

-- what a ground is to a caller
pub record GroundOf : Type 0 where
  pub d : Design
  pub lat : Mesh
  pub items : List Item

-- a sound design, a lattice of it, and copper that serves it
pub record IsGround {C : Type 0} (copper : Ghosts C) (d : Design) (m : Mesh) (c : C) : Type 0 where
  pub sound : IsSound d
  pub fits : FitsDesign d m
  pub serves : copper.serves c d
  pub in_order : Ascends (copper.items c)

abbrev pub ground_of : Design → Mesh → List Item → GroundOf
ground_of d lat items = record { d = d; lat = lat; items = items }
