-- What the private functions of a closing pass keep and answer.
use Rattle.std.specs.Prelude.{◌≡◌, ◌⊎◌, ℕ, ◌<◌, ◌≤◌, Bool, true, false, List, ◌++◌, length, remove, All, Some}
use Rattle.std.specs.Prelude.{IfSome, slice_get}
use Rattle.pcb_model.specs.declared.item.Item.{Item}
use Rattle.pcb_model.specs.declared.design.Design.{Design}
use Rattle.pcb_islands.specs.declared.net.Island.{Island}
use Rattle.pcb_islands.specs.Islands.{AreIslands}
use Rattle.route_lattice.specs.Mesh.{Mesh, node_count}
use Rattle.cut_certificate.specs.Cuts.{LeadsOn}
use Rattle.pcb_board.specs.Boards.{BoardOf}
use Rattle.route_plan.specs.Mapped.{IsMappedOn}
use Rattle.closing_pass.specs.declared.join.SearchState.{SearchState}
use Rattle.closing_pass.specs.Closing.{CanClose, Closes}

-- the board may be closed; there is memory for searches over the lattice, and what was mapped last is of a board that
-- has grown into this one
pub record AreReady (m : Mesh) (via_cost : ℕ) (b : BoardOf) (state : SearchState) : Type 0 where
  pub can : CanClose m via_cost b.design
  pub size : state.search ≡ node_count m
  pub mapped : IfSome state.mapped (IsMappedOn m b)

-- the net is one of the design, and these are its islands
pub record HasIslands (d : Design) (items : List Item) (net : ℕ) (found : List Island) : Type 0 where
  pub net_there : net < length d.nets
  pub islands : AreIslands d items net found

-- and there is one at the place
pub record HasIslandAt (d : Design) (items : List Item) (net : ℕ) (found : List Island) (place : ℕ) : Type 0 where
  pub net_there : net < length d.nets
  pub islands : AreIslands d items net found
  pub place_there : place < length found

-- no legal walk leads from the island at a place to another
abbrev pub IsShutAt : Design → Mesh → ℕ → List Item → List Island → ℕ → Type 0
IsShutAt d m via_cost items found place =
    (island : Island) → slice_get found place ≡ Some island → ¬ (LeadsOn d m items via_cost island (remove found place))

-- the island at the place was joined; or no legal walk leads on from it, and the board stays
abbrev pub Tries : Mesh → ℕ → ℕ → List Island → BoardOf → BoardOf → Bool → Type 0
Tries m via_cost place found old new true = Unit {0}
Tries m via_cost place found old new false = IsShutAt old.design m via_cost old.items found place × (new ≡ old)

-- some island was joined, or none leads on and the board stays
abbrev pub TriesSome : Mesh → ℕ → List Island → BoardOf → BoardOf → Bool → Type 0
TriesSome m via_cost found old new true = Unit {0}
TriesSome m via_cost found old new false = ((place : ℕ) → IsShutAt old.design m via_cost old.items found place) ×
    (new ≡ old)

-- the islands of the net are fewer
pub record HasFewer (net : ℕ) (b : BoardOf) (found : List Island) : Type 0 where
  pub fewer : (later : List Island) → AreIslands b.design b.items net later → length later < length found

-- the board has further items of the net, and the same design
pub record GrowsBy (net : ℕ) (old new : BoardOf) : Type 0 where
  pub design_stays : new.design ≡ old.design
  pub added : List Item
  pub items_are : new.items ≡ old.items ++ added
  pub own : All (λ (b : Item). b.net ≡ Some net) added

-- the board has further joins of the closing pass, all of the net
pub record JoinsNet (m : Mesh) (via_cost net : ℕ) (old new : BoardOf) : Type 0 where
  pub closes : Closes m via_cost old new
  pub grows : GrowsBy net old new

-- the net has at most one island, or no legal walk leads from any of them to another
pub record IsClosedOn (d : Design) (m : Mesh) (via_cost : ℕ) (items : List Item) (net : ℕ) : Type 0 where
  pub found : List Island
  pub islands : AreIslands d items net found
  pub shut : (length found ≤ 1) ⊎ ((place : ℕ) → IsShutAt d m via_cost items found place)

abbrev pub IsClosed : Mesh → ℕ → BoardOf → ℕ → Type 0
IsClosed m via_cost b net = IsClosedOn b.design m via_cost b.items net
