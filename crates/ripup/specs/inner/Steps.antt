-- Steps of a count of what is in the way of a probe, and of a search for what is in the way of new items.
use Rattle.std.specs.Prelude.{◌≡◌, ◌⊎◌, ℕ, ◌≤◌, ◌<◌, List, [], ◌∷◌, ◌++◌, length, All, Contains}
use Rattle.pcb_model.specs.declared.item.Item.{Item}
use Rattle.pcb_model.specs.declared.item.Probe.{Probe}
use Rattle.pcb_model.specs.declared.design.Design.{Design}
use Rattle.pcb_model.specs.Pairs.{Agrees}
use Rattle.pcb_model.specs.Board.{IsRouted}
use Rattle.pcb_model.specs.Counts.{Counts}
use Rattle.ripup.specs.Rips.{IsInWay, HasIdInWay}

-- of the items before a place n are in the way; these have ids below `from`, which no fixed item has, and the others
-- haven't
pub record IsPassed (d : Design) (items : List Item) (net : ℕ) (p : Probe) (from n : ℕ) : Type 0 where
  pub before : List Item
  pub rest : List Item
  pub items_are : items ≡ before ++ rest
  pub counted : Counts (IsInWay d net p) before n
  pub below : All (λ (b : Item). b.id < from) before
  pub above : All (λ (b : Item). from ≤ b.id) rest
  pub behind : length d.fixed ≤ from

-- the ids are old, or of items in the way of `a`; of the routed items with ids below `from`, or with its own, all
-- others agree with it
pub record AreInWayBelow (d : Design) (items : List Item) (a : Item) (from : ℕ) (old ids : List ℕ) : Type 0 where
  pub kept : (id : ℕ) → Contains old id → Contains ids id
  pub only : (id : ℕ) → Contains ids id → Contains old id ⊎ HasIdInWay d items (a ∷ []) id
  pub below : (b : Item) → Contains items b → IsRouted b → (b.id < from) ⊎ (b.id ≡ a.id) → Contains ids b.id
      ⊎ Agrees d a b

-- of all routed items all others agree with it
pub record AreInWayOfOne (d : Design) (items : List Item) (a : Item) (old ids : List ℕ) : Type 0 where
  pub kept : (id : ℕ) → Contains old id → Contains ids id
  pub only : (id : ℕ) → Contains ids id → Contains old id ⊎ HasIdInWay d items (a ∷ []) id
  pub whole : (b : Item) → Contains items b → IsRouted b → Contains ids b.id ⊎ Agrees d a b

-- the ids of all items that are in the way, in any order
pub record AreInWayOfAll (d : Design) (items new : List Item) (ids : List ℕ) : Type 0 where
  pub each : (id : ℕ) → Contains ids id → HasIdInWay d items new id
  pub whole : (b : Item) → Contains items b → IsRouted b → Contains ids b.id ⊎ All (λ a. Agrees d a b) new
