-- Copper beside that of a board: without one item, and perhaps with another in its place.
use Rattle.std.specs.Prelude.{◌≡◌, ℕ, ◌≤◌, ◌^◌, false, List, [], ◌∷◌, All, Contains, IfSome, Option, Some, None}
use Rattle.pcb_model.specs.declared.item.Item.{Item}
use Rattle.pcb_model.specs.declared.design.Design.{Design}
use Rattle.pcb_model.specs.Bounds.{IsItemFit}
use Rattle.pcb_model.specs.Copper.{Removes}
use Rattle.pcb_model.specs.Sound.{IsItemOf, IsSound, Serves}
use Rattle.pcb_islands.specs.declared.net.Island.{Island}
use Rattle.pcb_tiles.specs.Spread.{Spread, ServesSpread}
use Rattle.copper_change.specs.Changes.{IsChange}
use Rattle.route_lattice.specs.Mesh.{Mesh}
use Rattle.route_lattice.specs.Fits.{FitsDesign}
use Rattle.route_lattice.specs.Ground.{ground_of}
use Rattle.move_maps.specs.declared.map.GroupMap.{GroupMap}
use Rattle.move_maps.specs.Maps.{AreMapsOf}
use Rattle.pcb_board.specs.Boards.{BoardOf, SnapOf}
use Rattle.pcb_board.specs.Answers.{snap_of}
use Rattle.route_plan.specs.declared.mapped.MappedSnap.{MappedSnap}
use Rattle.route_plan.specs.Searches.{NetSearchOf}

-- what contracts see of it: its design, a lattice, the snapshot of the board, its items, and the price of a via in nm
pub record RoomOf : Type 0 where
  pub d : Design
  pub lat : Mesh
  pub snap : SnapOf
  pub items : List Item
  pub via_cost : ℕ

-- a sound design, a lattice of it, and a small price; the copper and the board's serve the design, and the change leads
-- from the one to the other; the maps are of the copper
pub record IsRoom (d : Design) (m : Mesh) (via_cost : ℕ) (snap : SnapOf) (tiles : Spread) (maps : List GroupMap)
    (gone come : List Item) : Type 0 where
  pub sound : IsSound d
  pub fits : FitsDesign d m
  pub small_cost : via_cost ≤ 2 ^ 30
  pub own : snap.design ≡ d
  pub serves_snap : Serves snap.items d
  pub serves : ServesSpread tiles d
  pub maps_are : AreMapsOf d m tiles.items maps
  pub back : IsChange tiles.items come gone snap.items

-- the item that comes, if one does, has an id that no item has, and its numbers are within the bounds
abbrev pub CanPut : List Item → Option Item → Type 0
CanPut items None = Unit {0}
CanPut items (Some a) = All (λ (b : Item). b.id ≡ a.id → ⊥) items × IsItemFit a

-- it stands in the copper from then on, and is listed
abbrev pub HasPut : Spread → Spread → Option Item → List Item → Type 0
HasPut old new None come = (new ≡ old) × (come ≡ [])
HasPut old new (Some a) come = (new.area ≡ old.area) × (new.reach ≡ old.reach) × Removes new.items a old.items
    × (come ≡ a ∷ [])

-- the item may be put in the place of one with this id: it has its id, is one of the design, and isn't fixed
pub record CanReplaceId (d : Design) (id : ℕ) (a : Item) : Type 0 where
  pub id_is : a.id ≡ id
  pub fits : IsItemOf d a
  pub routed : a.fixed ≡ false

-- a routed item of this id is on the board, and another may be put in its place
pub record MakesRoom (b : BoardOf) (id : ℕ) (moved : Option Item) : Type 0 where
  pub item : Item
  pub there : Contains b.items item
  pub routed : item.fixed ≡ false
  pub id_is : item.id ≡ id
  pub moved_fits : IfSome moved (CanReplaceId b.design id)

-- the same items, or one more
abbrev pub IfPut : List Item → Option Item → List Item → Type 0
IfPut rest None past = past ≡ rest
IfPut rest (Some a) past = Removes past a rest

abbrev pub listed : Option Item → List Item
listed None = []
listed (Some a) = a ∷ []

-- the items without that of the id, and with the other in its place
pub record IsPast (items : List Item) (id : ℕ) (moved : Option Item) (past : List Item) : Type 0 where
  pub item : Item
  pub id_is : item.id ≡ id
  pub rest : List Item
  pub removed : Removes items item rest
  pub put : IfPut rest moved past

-- the tiles of the board changed so, and what went and came
pub record IsRoomOf (b : BoardOf) (id : ℕ) (moved : Option Item) (tiles : Spread) (gone come : List Item) : Type 0 where
  pub serves : ServesSpread tiles b.design
  pub past : IsPast b.items id moved tiles.items
  pub gone_is : gone ≡ past.item ∷ []
  pub come_is : come ≡ listed moved

-- the copper of the board changed so
pub record IsRoomFor (m : Mesh) (via_cost : ℕ) (b : BoardOf) (id : ℕ) (moved : Option Item) (room : RoomOf) : Type 0
  where
    pub d_is : room.d ≡ b.design
    pub lat_is : room.lat ≡ m
    pub snap_is : room.snap ≡ snap_of b
    pub via_cost_is : room.via_cost ≡ via_cost
    pub past : IsPast b.items id moved room.items

-- the board's snapshot with its maps
pub record IsHome (room : RoomOf) (mapped : MappedSnap) : Type 0 where
  pub snap_is : mapped.snap ≡ room.snap
  pub maps_are : AreMapsOf room.snap.design room.lat room.snap.items mapped.maps

-- the search in it from an island to others
abbrev pub search_in : RoomOf → Island → List Island → NetSearchOf
search_in room island others = record {
  on = ground_of room.d room.lat room.items;
  island = island;
  others = others;
  via_cost = room.via_cost;
  penalty = None;
}
