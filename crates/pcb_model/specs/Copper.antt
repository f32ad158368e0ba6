-- What a search among items answers.
use Rattle.std.specs.Prelude.{◌≡◌, ℕ, ◌≤◌, ◌<◌, ◌^◌, List, Option, Some, None, All, AllPairs, Contains, length}
use Rattle.std.specs.Prelude.{slice_index_or, slice_get, remove}
use Rattle.std.specs.List.{AllZip}
use Rattle.pcb_model.specs.declared.item.Item.{Item}
use Rattle.pcb_model.specs.declared.near.Extent.{Extent}
use Rattle.pcb_model.specs.declared.item.Probe.{Probe}
use Rattle.pcb_model.specs.declared.design.Design.{Design}
use Rattle.pcb_model.specs.Bounds.{IsItemFit}
use Rattle.pcb_model.specs.Pairs.{ProbeAgrees}
use Rattle.pcb_model.specs.Near.{IsExtentOf}

-- the item's id isn't `but`
abbrev pub IsOther : Option ℕ → Item → Type 0
IsOther but b = but ≡ Some b.id → ⊥

-- an item that a search from an id looks at: not the one with the id `but`
abbrev pub IsLookedAt : ℕ → Option ℕ → Item → Type 0
IsLookedAt from but b = (from ≤ b.id) × IsOther but b

-- the least id of an item that is looked at and of which Yes holds; of those before, No holds
pub record IsLeast (Yes No : Item → Type 0) (from : ℕ) (but : Option ℕ) (items : List Item) (id : ℕ) : Type 0 where
  pub item : Item
  pub there : Contains items item
  pub id_is : item.id ≡ id
  pub looked_at : IsLookedAt from but item
  pub holds : Yes item
  pub before : (b : Item) → Contains items b → IsLookedAt from but b → b.id < id → No b

-- None where No holds of all items that are looked at
abbrev pub Finds : (Item → Type 0) → (Item → Type 0) → ℕ → Option ℕ → List Item → Option ℕ → Type 0
Finds Yes No from but items None = (b : Item) → Contains items b → IsLookedAt from but b → No b
Finds Yes No from but items (Some id) = IsLeast Yes No from but items id

-- the item with the least id from an id on
pub record IsFirstFrom (from : ℕ) (items : List Item) (a : Item) : Type 0 where
  pub there : Contains items a
  pub from_on : from ≤ a.id
  pub before : (b : Item) → Contains items b → b.id < a.id → b.id < from

-- some item disagrees with what the probe of the net stands for
pub record IsBlocked (d : Design) (net : ℕ) (p : Probe) (items : List Item) : Type 0 where
  pub item : Item
  pub there : Contains items item
  pub disagrees : ProbeAgrees d net p item → ⊥

-- each item agrees with it
abbrev pub IsUnblocked : Design → ℕ → Probe → List Item → Type 0
IsUnblocked d net p items = (b : Item) → Contains items b → ProbeAgrees d net p b

-- the ids ascend
abbrev pub Ascends : List Item → Type 0
Ascends items = AllPairs (λ (a b : Item). a.id < b.id) items

-- the item at a place has this id
pub record IsAt (items : List Item) (i id : ℕ) : Type 0 where
  pub within : i < length items
  pub id_is : (d : Item) → (slice_index_or items i d).id ≡ id

-- rest is items without one b
pub record Removes (items : List Item) (b : Item) (rest : List Item) : Type 0 where
  pub place : ℕ
  pub there : slice_get items place ≡ Some b
  pub rest_is : rest ≡ remove items place

-- each item's extent stands at its place
abbrev pub AreExtentsOf : List Item → List Extent → Type 0
AreExtentsOf items extents = AllZip (λ (a : Item) (e : Extent). IsExtentOf a.pieces e) items extents

-- what a plain list of items keeps
pub record IsPlain (items : List Item) (extents : List Extent) : Type 0 where
  pub ascends : Ascends items
  pub ids_within : All (λ (b : Item). b.id < 2 ^ 64) items
  pub fit : All IsItemFit items
  pub paired : AreExtentsOf items extents
