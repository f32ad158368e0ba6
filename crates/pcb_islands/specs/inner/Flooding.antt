-- What flooding from an item has reached, and what waits to be spread from.
use Rattle.std.specs.Prelude.{◌≡◌, ℕ, ◌+◌, ◌*◌, ◌≤◌, ◌<◌, ◌^◌, ◌==◌, Bool, not, List, length, count_by, All, Any}
use Rattle.std.specs.Prelude.{Contains, ◌⊎◌}
use Rattle.std.specs.List.{list_any}
use Rattle.pcb_model.specs.declared.item.Item.{Item}
use Rattle.pcb_model.specs.Pairs.{AreTouching}
use Rattle.pcb_islands.specs.Islands.{HasIdJoined}

-- ids are numbers of 64 bits
abbrev pub HasIdWithin : Item → Type 0
HasIdWithin b = b.id < 2 ^ 64

-- an item with this id touches the item a
pub record HasIdTouching (items : List Item) (a : Item) (id : ℕ) : Type 0 where
  pub item : Item
  pub there : Contains items item
  pub id_is : item.id ≡ id
  pub touches : AreTouching a item

-- only ids of items that touch a, and of those with ids below `from` all but its own
pub record AreTouchedBelow (items : List Item) (a : Item) (from : ℕ) (ids : List ℕ) : Type 0 where
  pub each : All (HasIdTouching items a) ids
  pub below : (b : Item) → Contains items b → AreTouching a b → b.id < from → (b.id ≡ a.id) ⊎ Contains ids b.id

-- ids of items that touch a: all but its own
pub record AreTouched (items : List Item) (a : Item) (ids : List ℕ) : Type 0 where
  pub each : All (HasIdTouching items a) ids
  pub whole : (b : Item) → Contains items b → AreTouching a b → (b.id ≡ a.id) ⊎ Contains ids b.id

-- ---- what is left to do
abbrev pub is_reached : List ℕ → Item → Bool
is_reached reached b = list_any (λ q. b.id == q) reached

-- each item that isn't reached may still be reached and wait
abbrev pub work : List Item → List ℕ → List ℕ → ℕ
work items reached waiting = 2 * count_by (λ b. not (is_reached reached b)) items + length waiting

-- some item has the id
pub record IsIdOf (items : List Item) (id : ℕ) : Type 0 where
  pub some : Any (λ (b : Item). b.id ≡ id) items

-- the ids were taken in: those that weren't reached wait now
pub record IsTakenIn (reached waiting ids reached' waiting' : List ℕ) : Type 0 where
  pub kept : (q : ℕ) → Contains reached q → Contains reached' q
  pub taken : All (Contains reached') ids
  pub only : (q : ℕ) → Contains reached' q → Contains reached q ⊎ (Contains ids q × Contains waiting' q)
  pub waiting_kept : (q : ℕ) → Contains waiting q → Contains waiting' q
  pub waiting_only : (q : ℕ) → Contains waiting' q → Contains waiting q ⊎ Contains ids q
  pub work_left : (items : List Item) → All (IsIdOf items) ids
      → work items reached' waiting' ≤ work items reached waiting

-- ---- a flood
-- what touches b is reached
pub record IsSpread (items : List Item) (reached : List ℕ) (b : Item) : Type 0 where
  pub each : (e : Item) → Contains items e → AreTouching b e → Contains reached e.id

-- only ids of items that are joined to the start are reached, and from each that doesn't wait what it touches
pub record IsFlooded (items : List Item) (start : Item) (reached waiting : List ℕ) : Type 0 where
  pub begun : Contains reached start.id
  pub joined : All (HasIdJoined items start) reached
  pub waiting_reached : All (Contains reached) waiting
  pub spread : (b : Item) → Contains items b → Contains reached b.id → Contains waiting b.id ⊎ IsSpread items reached b
