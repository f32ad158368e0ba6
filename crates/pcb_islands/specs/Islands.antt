-- The islands of a net: the classes of its pins under chains of touching items.
use Rattle.std.specs.Prelude.{◌≡◌, ◌↔◌, ℕ, ◌<◌, List, [], ◌∷◌, length, All, Any, Contains, Some, slice_get, ◌⊎◌}
use Rattle.std.specs.Option.{option_map_or}
use Rattle.std.specs.List.{AllZip}
use Rattle.std.specs.List.Sorted.{IsStrictlyIncreasing}
use Rattle.pcb_model.specs.declared.item.Item.{Item}
use Rattle.pcb_model.specs.declared.item.Metal.TheVariants.{Pad}
use Rattle.pcb_model.specs.declared.design.Net.{Net}
use Rattle.pcb_model.specs.declared.design.Design.{Design}
use Rattle.pcb_model.specs.Board.{AreJoined}
use Rattle.pcb_islands.specs.declared.net.Island.{Island}

-- ys are the elements of xs that have P, in their order
abbrev pub Selects : {X : Type 0} → (X → Type 0) → List X → List X → Type 0
Selects P [] ys = ys ≡ []
Selects {X} P (x ∷ xs) ys = (P x × (rest : List X) × (ys ≡ x ∷ rest) × Selects P xs rest) ⊎ (¬ (P x) × Selects P xs ys)

abbrev pub pins_of : Design → ℕ → List ℕ
pins_of d net = option_map_or (λ (n : Net). n.pins) (slice_get d.nets net) []

-- ---- what is joined to an item
-- the item is the pad of the pin
pub record IsPadOf (d : Design) (pin : ℕ) (a : Item) : Type 0 where
  pub there : Contains d.fixed a
  pub is_pad : a.metal ≡ Pad pin

-- the pad of the pin is joined to the item a
pub record HasPadJoined (d : Design) (items : List Item) (a : Item) (pin : ℕ) : Type 0 where
  pub pad : Item
  pub pad_is : IsPadOf d pin pad
  pub joined : AreJoined items a pad

-- an item with this id is joined to the item a
pub record HasIdJoined (items : List Item) (a : Item) (id : ℕ) : Type 0 where
  pub item : Item
  pub there : Contains items item
  pub id_is : item.id ≡ id
  pub joined : AreJoined items a item

-- the ids of all items that are joined to the item a, ascending
pub record AreIdsJoined (items : List Item) (a : Item) (ids : List ℕ) : Type 0 where
  pub ascend : IsStrictlyIncreasing ids
  pub exact : (id : ℕ) → Contains ids id ↔ HasIdJoined items a id

-- ---- islands
-- of these pins of a net, an island has, in their order, just those whose pads are joined to its first pin's pad,
-- and just the items that are joined to that pad
pub record IsIsland (d : Design) (items : List Item) (net : ℕ) (pins : List ℕ) (s : Island) : Type 0 where
  pub net_is : s.net ≡ net
  pub first : ℕ
  pub first_is : slice_get s.pins 0 ≡ Some first
  pub pad : Item
  pub pad_is : IsPadOf d first pad
  pub pins_are : Selects (HasPadJoined d items pad) pins s.pins
  pub items_are : AreIdsJoined items pad s.items

-- some island has the pin
pub record IsCovered (found : List Island) (pin : ℕ) : Type 0 where
  pub some : Any (λ (s : Island). Contains s.pins pin) found

-- place i of the list holds the first pin of s
pub record BeginsAt (pins : List ℕ) (i : ℕ) (s : Island) : Type 0 where
  pub within : i < length pins
  pub first_is : slice_get s.pins 0 ≡ slice_get pins i

-- the islands of these pins of a net, in the order of their first pins
pub record AreIslandsOf (d : Design) (items : List Item) (net : ℕ) (pins : List ℕ) (found : List Island) : Type 0 where
  pub each : All (IsIsland d items net pins) found
  pub covered : All (IsCovered found) pins
  pub places : List ℕ
  pub ascend : IsStrictlyIncreasing places
  pub begin : AllZip (BeginsAt pins) places found

-- the islands of a net
abbrev pub AreIslands : Design → List Item → ℕ → List Island → Type 0
AreIslands d items net found = AreIslandsOf d items net (pins_of d net) found

-- the island at this place has an item with the id
pub record HasItemAt (found : List Island) (place id : ℕ) : Type 0 where
  pub island : Island
  pub there : slice_get found place ≡ Some island
  pub has : Contains island.items id

-- ---- complete nets
-- the pads of the two pins are joined
pub record ArePinsJoined (d : Design) (items : List Item) (i j : ℕ) : Type 0 where
  pub pad : Item
  pub pad_is : IsPadOf d i pad
  pub joined : HasPadJoined d items pad j

-- the pads of all pins of the net are joined
abbrev pub IsComplete : Design → List Item → ℕ → Type 0
IsComplete d items net = (i j : ℕ) → Contains (pins_of d net) i → Contains (pins_of d net) j → ArePinsJoined d items i j
