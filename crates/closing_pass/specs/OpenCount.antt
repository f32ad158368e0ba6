-- How many connections are open on a board.
use Rattle.std.specs.Prelude.{◌≡◌, ℕ, ◌-◌, ◌<◌, ◌≤◌, List, length, sum_by, slice_get, Some}
use Rattle.pcb_model.specs.declared.item.Item.{Item}
use Rattle.pcb_model.specs.declared.design.Design.{Design}
use Rattle.pcb_islands.specs.declared.net.Island.{Island}
use Rattle.pcb_islands.specs.Islands.{AreIslands}
use Rattle.pcb_board.specs.Boards.{BoardOf}

-- so many connections are open: over all nets, the islands less one; a net without an island has none
pub record IsOpenCount (d : Design) (items : List Item) (count : ℕ) : Type 0 where
  pub found : List (List Island)
  pub all : length found ≡ length d.nets
  pub islands : (net : ℕ) (own : List Island) → slice_get found net ≡ Some own → AreIslands d items net own
  pub sum_is : count ≡ sum_by (λ (own : List Island). length own - 1) found

-- on the later board no more connections are open
abbrev pub NeverMore : BoardOf → BoardOf → Type 0
NeverMore old new = (n k : ℕ) → IsOpenCount old.design old.items n → IsOpenCount new.design new.items k → k ≤ n

-- or fewer
abbrev pub FewerOpen : BoardOf → BoardOf → Type 0
FewerOpen old new = (n k : ℕ) → IsOpenCount old.design old.items n → IsOpenCount new.design new.items k → k < n
