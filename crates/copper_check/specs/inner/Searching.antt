-- What is known while the items of a board, or its nets, are gone over.
use Rattle.std.specs.Prelude.{◌≡◌, ◌⊎◌, ◌<◌, ℕ, List, Option, Some, None, Contains, get_or, length, slice_get}
use Rattle.pcb_model.specs.declared.item.Item.{Item}
use Rattle.pcb_model.specs.declared.design.Design.{Design}
use Rattle.pcb_model.specs.Pairs.{Agrees}
use Rattle.pcb_model.specs.Board.{IsRouted}
use Rattle.pcb_islands.specs.declared.net.Island.{Island}
use Rattle.pcb_islands.specs.Islands.{AreIslands}
use Rattle.copper_check.specs.Checks.{Clashes}

-- the id is below the bound; with no bound each is
abbrev pub IsBelow : Option ℕ → ℕ → Type 0
IsBelow None id = Unit {0}
IsBelow (Some bound) id = id < bound

-- an item with this id clashes
pub record HasClash (d : Design) (items : List Item) (id : ℕ) : Type 0 where
  pub item : Item
  pub there : Contains items item
  pub id_is : item.id ≡ id
  pub clashes : Clashes d items item

abbrev pub IsReached : Design → List Item → Option ℕ → Type 0
IsReached d items None = Unit {0}
IsReached d items (Some id) = HasClash d items id

-- where it is routed, it agrees with each other item if one of the two ids is below the bound
pub record AgreesBelow (d : Design) (items : List Item) (bound : Option ℕ) (a : Item) : Type 0 where
  pub each : (b : Item) → IsRouted a → Contains items b → (b.id ≡ a.id → ⊥) → IsBelow bound a.id ⊎ IsBelow bound b.id
      → Agrees d a b

-- so far some items were gone over
pub record AreSearched (d : Design) (items : List Item) (bound : Option ℕ) (count : ℕ) : Type 0 where
  pub reached : IsReached d items bound
  pub own : (k : ℕ) (a : Item) → k < count → AgreesBelow d items bound (get_or items k a)

-- the islands of so many nets
pub record AreIslandsBelow (d : Design) (items : List Item) (count : ℕ) (found : List (List Island)) : Type 0 where
  pub all : length found ≡ count
  pub each : (net : ℕ) (own : List Island) → slice_get found net ≡ Some own → AreIslands d items net own
