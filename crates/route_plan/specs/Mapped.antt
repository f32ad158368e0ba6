-- A snapshot of a board with the maps of the moves on it, and what a later snapshot is to it.
use Rattle.std.specs.Prelude.{◌≡◌, All}
use Rattle.pcb_model.specs.Sound.{IsSound, IsItemOf, Serves}
use Rattle.route_lattice.specs.Mesh.{Mesh}
use Rattle.route_lattice.specs.Fits.{FitsDesign}
use Rattle.copper_change.specs.Changes.{AreOneById}
use Rattle.move_maps.specs.Maps.{AreMapsOf}
use Rattle.pcb_board.specs.Boards.{BoardOf, SnapOf}
use Rattle.pcb_board.specs.Keeping.{IsBoard, Grows}
use Rattle.pcb_board.specs.Answers.{snap_of}
use Rattle.route_plan.specs.declared.mapped.MappedSnap.{MappedSnap}

-- the snapshot is one of a sound design, which the lattice fits
pub record CanMap (m : Mesh) (s : SnapOf) : Type 0 where
  pub sound : IsSound s.design
  pub fits : FitsDesign s.design m
  pub serves : Serves s.items s.design

-- the snapshot, with the maps of its items
pub record IsMapped (m : Mesh) (s : SnapOf) (mapped : MappedSnap) : Type 0 where
  pub snap_is : mapped.snap ≡ s
  pub maps_are : AreMapsOf s.design m s.items mapped.maps

-- the snapshot is of the design of the mapped one, and of a board that has one item by id with it; where it has seen as
-- many entries, it has the same items
pub record IsLater (m : Mesh) (mapped : MappedSnap) (s : SnapOf) : Type 0 where
  pub design_is : mapped.snap.design ≡ s.design
  pub fit : All (IsItemOf s.design) mapped.snap.items
  pub one : AreOneById mapped.snap.items s.items
  pub same : mapped.snap.number ≡ s.number → mapped.snap.items ≡ s.items
  pub maps_are : AreMapsOf s.design m mapped.snap.items mapped.maps

-- the mapped snapshot is of a board that has grown into this one
pub record IsMappedOn (m : Mesh) (b : BoardOf) (mapped : MappedSnap) : Type 0 where
  pub board : BoardOf
  pub kept : IsBoard board
  pub grows : Grows board b
  pub mapped_is : IsMapped m (snap_of board) mapped
