-- The copper on which candidates are tried.
use Rattle.std.specs.Prelude.{◌≡◌, ℕ, ◌^◌, ◌⊎◌, ◌==◌, ◌&&◌, not, Bool, false, List, [], ◌∷◌, ◌++◌, length, map, All}
use Rattle.std.specs.Prelude.{Contains, Some, slice_get}
use Rattle.std.specs.List.{list_any}
use Rattle.geo_kernel.specs.declared.point.Point.{Point}
use Rattle.geo_kernel.specs.declared.spine.Spine.TheVariants.{Chain}
use Rattle.geo_kernel.specs.Plane.{IsWithin}
use Rattle.geo_kernel.specs.Spine.{closed}
use Rattle.pcb_model.specs.declared.item.Item.{Item}
use Rattle.pcb_model.specs.declared.design.Design.{Design}
use Rattle.pcb_model.specs.Bounds.{HasClearancesWithin}
use Rattle.pcb_model.specs.Pairs.{ProbeAgrees}
use Rattle.pcb_model.specs.Sound.{IsFixedSound}
use Rattle.pcb_tiles.specs.Spread.{Spread, holding}
use Rattle.plane_joins.specs.declared.area.PlaneArea.{PlaneArea}
use Rattle.plane_joins.specs.declared.candidate.Candidate.{Candidate}
use Rattle.plane_joins.specs.declared.laid.Laid.{Laid}
use Rattle.plane_joins.specs.declared.trial.Rim.{Rim}
use Rattle.plane_joins.specs.Planes.{IsPlaneOf}
use Rattle.plane_joins.specs.Ribs.{IsRib, TakesRibs, TakesPlanes, rib_item, rib_probe}
use Rattle.plane_joins.specs.Stubs.{loose}

-- ---- candidates and planes
pub record IsCandidateFit (c : Candidate) : Type 0 where
  pub from_within : IsWithin (2 ^ 29) c.from
  pub to_within : IsWithin (2 ^ 29) c.to

-- a rim as the tests take it: its closed chain, and it alone as the loops of an area
pub record IsRimOf (points : List Point) (r : Rim) : Type 0 where
  pub edge : r.edge ≡ Chain (closed points)
  pub loops : r.loops ≡ points ∷ []

-- a plane has the layer of another, and another net
abbrev pub meets : PlaneArea → PlaneArea → Bool
meets p q = (q.layer == p.layer) && not (q.net == p.net)

-- a plane of the design, its rim, and whether one of the planes behind it meets it
pub record IsTrial (d : Design) (p : PlaneArea) (later : List PlaneArea) (rim : Rim) (is_met : Bool) : Type 0 where
  pub plane : IsPlaneOf d p
  pub rim_is : IsRimOf p.rim rim
  pub met_is : is_met ≡ list_any (meets p) later

-- ---- what is laid
-- the design's fixed items and the ribs so far
abbrev pub items_of : Design → Laid → List Item
items_of d l = d.fixed ++ l.ribs

-- an item agrees with each candidate of a plane
pub record AgreesWithEach (d : Design) (a : Item) (p : PlaneArea) : Type 0 where
  pub each : (c : Candidate) → ProbeAgrees d p.net (rib_probe d p c) a

-- the tiles hold the fixed items and some ribs, as routed items, since they serve a design that has all their fixed
-- ones; the other ribs agree with each candidate of the planes to come
pub record IsLaid (d : Design) (planes : List PlaneArea) (l : Laid) : Type 0 where
  pub kept : List Item
  pub held : l.tiles.items ≡ d.fixed ++ map loose kept
  pub from_ribs : (a : Item) → Contains kept a → Contains l.ribs a
  pub others : (a : Item) → Contains l.ribs a → Contains kept a ⊎ All (AgreesWithEach d a) planes
  pub reach : HasClearancesWithin l.tiles.reach d
  pub each : (i : ℕ) (a : Item) → slice_get (items_of d l) i ≡ Some a → IsFixedSound d i a

-- no rib is laid
pub record IsBare (d : Design) (l : Laid) : Type 0 where
  pub held : l.tiles.items ≡ d.fixed
  pub reach : HasClearancesWithin l.tiles.reach d
  pub none : l.ribs ≡ []

-- the tiles with the rib of a candidate, or as they were where no plane to come asks for it
abbrev pub Holds : Design → PlaneArea → Bool → ℕ → Candidate → Spread → Spread → Type 0
Holds d p is_met id c old new =
    (new ≡ holding old (old.items ++ loose (rib_item d p id c) ∷ [])) ⊎ ((is_met ≡ false) × (new ≡ old))

-- one candidate
abbrev pub TakesOne : Design → PlaneArea → List Item → Candidate → List Item → Type 0
TakesOne d p items c after =
    (IsRib d p items c × (after ≡ items ++ rib_item d p (length items) c ∷ []))
    ⊎ (¬ (IsRib d p items c) × (after ≡ items))

-- what the rest of the candidates take from here, all of them take from the first items
pub record LeadsRibs (d : Design) (p : PlaneArea) (first : List Item) (all : List Candidate) (items : List Item)
    (rest : List Candidate) : Type 0 where
  pub on : (after : List Item) → TakesRibs d p items rest after → TakesRibs d p first all after

-- so it is with planes
pub record LeadsPlanes (d : Design) (first : List Item) (all : List PlaneArea) (items : List Item)
    (rest : List PlaneArea) : Type 0 where
  pub on : (after : List Item) → TakesPlanes d items rest after → TakesPlanes d first all after
