-- Which item of a board isn't as it has to be, and the islands of all nets.
use Rattle.std.specs.Prelude.{◌≡◌, ◌⊎◌, ◌<◌, ℕ, List, length, Contains, Some, slice_get}
use Rattle.pcb_model.specs.declared.item.Item.{Item}
use Rattle.pcb_model.specs.declared.design.Design.{Design}
use Rattle.pcb_model.specs.Pairs.{Agrees}
use Rattle.pcb_model.specs.Board.{IsRouted, AreInside, IsLaid}
use Rattle.pcb_islands.specs.declared.net.Island.{Island}
use Rattle.pcb_islands.specs.Islands.{AreIslands}

-- ---- copper
-- the item disagrees with another one, and one of the two is routed
pub record Clashes (d : Design) (items : List Item) (a : Item) : Type 0 where
  pub other : Item
  pub there : Contains items other
  pub apart : other.id ≡ a.id → ⊥
  pub one_routed : IsRouted a ⊎ IsRouted other
  pub disagree : Agrees d a other → ⊥

-- it agrees with all others, where one of the two is routed
pub record AgreesWithAll (d : Design) (items : List Item) (a : Item) : Type 0 where
  pub each : (b : Item) → Contains items b → (b.id ≡ a.id → ⊥) → IsRouted a ⊎ IsRouted b → Agrees d a b

-- where it is routed, it is inside every boundary
abbrev pub IsWithinEdges : Design → Item → Type 0
IsWithinEdges d a = IsRouted a → AreInside d.bounds a.pieces

-- where it is routed, it lies as its net wants it
abbrev pub IsLaidWell : Design → Item → Type 0
IsLaidWell d a = IsRouted a → IsLaid d a

-- the least id of an item of which Bad holds; of all before, Good holds
pub record IsFirstBad (Bad Good : Item → Type 0) (items : List Item) (id : ℕ) : Type 0 where
  pub item : Item
  pub there : Contains items item
  pub id_is : item.id ≡ id
  pub bad : Bad item
  pub before : (b : Item) → Contains items b → b.id < id → Good b

-- ---- islands
-- those of each net
pub record AreAllIslands (d : Design) (items : List Item) (found : List (List Island)) : Type 0 where
  pub all : length found ≡ length d.nets
  pub each : (net : ℕ) (own : List Island) → slice_get found net ≡ Some own → AreIslands d items net own
