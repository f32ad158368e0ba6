-- How far the islands of a net are found.
use Rattle.std.specs.Prelude.{◌≡◌, ℕ, ◌≤◌, ◌<◌, List, [], ◌∷◌, ◌++◌, length, Contains, Some, slice_get, slice_set}
use Rattle.pcb_model.specs.declared.item.Item.{Item}
use Rattle.pcb_model.specs.declared.item.Metal.TheVariants.{Pad}
use Rattle.pcb_model.specs.declared.design.Design.{Design}
use Rattle.pcb_islands.specs.declared.net.Island.{Island}
use Rattle.pcb_islands.specs.Islands.{AreIdsJoined, AreIslandsOf, HasItemAt}
use Rattle.pcb_islands.specs.inner.Numbers.{place_at}

-- ---- pads
-- a pad of the pin stands at this place
pub record IsPadAt (fixed : List Item) (pin place : ℕ) : Type 0 where
  pub pad : Item
  pub there : slice_get fixed place ≡ Some pad
  pub is_pad : pad.metal ≡ Pad pin

-- the pad of the pin r.1 stands at the place r.0, from a place on and before an end
pub record IsPadFrom (fixed : List Item) (from end : ℕ) (r : ℕ × ℕ) : Type 0 where
  pub from_on : from ≤ r.0
  pub to_end : r.0 < end
  pub pad : IsPadAt fixed r.1 r.0

-- ---- islands
-- these pins are in islands, and each item of an island has the island's place
pub record IsProgress (d : Design) (items : List Item) (net : ℕ) (pins : List ℕ) (found : List Island)
    (places : List (ℕ × ℕ)) : Type 0 where
  pub islands : AreIslandsOf d items net pins found
  pub each : (id place : ℕ) → place_at places id ≡ Some place → HasItemAt found place id
  pub whole : (id place : ℕ) → HasItemAt found place id → place_at places id ≡ Some place

-- all these numbers have this place now, and all others the one that they had
pub record ArePlaced (old : List (ℕ × ℕ)) (ids : List ℕ) (place : ℕ) (new : List (ℕ × ℕ)) : Type 0 where
  pub here : (q : ℕ) → Contains ids q → place_at new q ≡ Some place
  pub others : (q : ℕ) → ¬ (Contains ids q) → place_at new q ≡ place_at old q

-- the island at this place has one pin more
pub record HasPinMore (old : List Island) (place pin : ℕ) (new : List Island) : Type 0 where
  pub island : Island
  pub there : slice_get old place ≡ Some island
  pub new_is : new ≡ slice_set old place (record island { pins = island.pins ++ pin ∷ [] })

-- an island of one pin was opened, whose items have its place
pub record HasIslandMore (items : List Item) (net pin : ℕ) (pad : Item) (old : List Island) (places : List (ℕ × ℕ))
    (new : List Island) (places' : List (ℕ × ℕ)) : Type 0 where
  pub ids : List ℕ
  pub joined : AreIdsJoined items pad ids
  pub new_is : new ≡ old ++ (record { net = net; pins = pin ∷ []; items = ids }) ∷ []
  pub placed : ArePlaced places ids (length old) places'
