-- What is open of one net.
use Rattle.std.specs.Prelude.{◌≡◌, ℕ, ◌-◌, List, length, sum_by, slice_get, Some}
use Rattle.pcb_model.specs.declared.item.Item.{Item}
use Rattle.pcb_model.specs.declared.design.Design.{Design}
use Rattle.pcb_islands.specs.declared.net.Island.{Island}
use Rattle.pcb_islands.specs.Islands.{AreIslands}

-- so many connections of the net are open
pub record CountsNet (d : Design) (items : List Item) (net count : ℕ) : Type 0 where
  pub found : List Island
  pub islands : AreIslands d items net found
  pub count_is : count ≡ length found - 1

-- so many of the first n nets
pub record CountsFirst (d : Design) (items : List Item) (n count : ℕ) : Type 0 where
  pub found : List (List Island)
  pub all : length found ≡ n
  pub islands : (net : ℕ) (own : List Island) → slice_get found net ≡ Some own → AreIslands d items net own
  pub sum_is : count ≡ sum_by (λ (own : List Island). length own - 1) found
