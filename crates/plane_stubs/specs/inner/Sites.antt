-- Where stubs of all nets are sought.
use Rattle.std.specs.Prelude.{◌≡◌, ℕ, ◌≤◌, ◌^◌, List, [], ◌∷◌, All}
use Rattle.pcb_model.specs.declared.item.Item.{Item}
use Rattle.pcb_model.specs.declared.item.Metal.{Metal}
use Rattle.pcb_model.specs.declared.design.Design.{Design}
use Rattle.pcb_model.specs.Sound.{IsSound}
use Rattle.route_lattice.specs.Fits.{FitsDesign}
use Rattle.route_lattice.specs.Mesh.{Mesh}
use Rattle.path_wire.specs.Lays.{IsWellLaid}
use Rattle.pcb_model.specs.Sound.{IsCopper}
use Rattle.plane_joins.specs.Stubs.{RibGround}

-- a design, its lattice, the price of a via, and the ids of the ribs, from `first` to below `last`
pub record SiteOf : Type 0 where
  pub d : Design
  pub lat : Mesh
  pub via_cost : ℕ
  pub first : ℕ
  pub last : ℕ

pub record IsSite (d : Design) (lat : Mesh) (via_cost : ℕ) : Type 0 where
  pub sound : IsSound d
  pub fits : FitsDesign d lat
  pub small_cost : via_cost ≤ 2 ^ 30

-- there with some copper
abbrev pub on_site : SiteOf → List Item → RibGround
on_site s items =
    record { d = s.d; lat = s.lat; via_cost = s.via_cost; items = items; first = s.first; last = s.last }

-- the metal is a wire or a via that is laid as the net wants it, and its items fit the design
pub record IsNetMetal (d : Design) (net : ℕ) (a : Metal) : Type 0 where
  pub well_laid : (id : ℕ) → IsWellLaid d net id a
  pub copper : IsCopper a
