-- What a round of settled moves leaves.
use Rattle.std.specs.Prelude.{◌≡◌, ◌⊎◌, ℕ, ◌<◌, ◌≤◌, List, length}
use Rattle.pcb_islands.specs.declared.net.Island.{Island}
use Rattle.pcb_islands.specs.Islands.{AreIslands}
use Rattle.route_lattice.specs.Mesh.{Mesh}
use Rattle.cut_certificate.specs.declared.cut.Cut.{Cut}
use Rattle.pcb_board.specs.Boards.{BoardOf}
use Rattle.closing_pass.specs.Closing.{AreEnds, Ends, HaveCuts}
use Rattle.closing_pass.specs.OpenCount.{FewerOpen}
use Rattle.closing_pass.specs.Settled.{AreSettled}
use Rattle.closing_pass.specs.inner.Steps.{IsShutAt}
use Rattle.closing_pass.specs.inner.Tries.{AreCutsSettled, IsHelped}

-- where there are further entries, fewer connections are open; and where there are none, the board stays
pub record GrowsFewer (old new : BoardOf) : Type 0 where
  pub fewer : length old.history < length new.history → FewerOpen old new
  pub same : length new.history ≤ length old.history → new ≡ old

-- the net has several islands, from none of which a legal walk leads on, and these are their cuts
pub record HasCutsOf (m : Mesh) (via_cost : ℕ) (b : BoardOf) (net : ℕ) (cuts : List Cut) : Type 0 where
  pub found : List Island
  pub islands : AreIslands b.design b.items net found
  pub several : 2 ≤ length found
  pub shut : (place : ℕ) → IsShutAt b.design m via_cost b.items found place
  pub cuts_are : HaveCuts b.design m via_cost b.items found cuts

-- no settled move helps an island of the net
abbrev pub IsNetSettled : Mesh → ℕ → ℕ → BoardOf → ℕ → List Cut → Type 0
IsNetSettled m via_cost tries b net cuts = (found : List Island) → AreIslands b.design b.items net found
    → AreCutsSettled m via_cost tries b found cuts

-- one was helped; or the board stays, and none of them can be
abbrev pub HasHelped : Mesh → ℕ → ℕ → ℕ → List Cut → BoardOf → BoardOf → Type 0
HasHelped m via_cost tries net cuts old new =
    IsHelped m via_cost old new ⊎ ((new ≡ old) × IsNetSettled m via_cost tries old net cuts)

-- how a net ends on a board, and that none of its islands can be helped
pub record EndsSettled (m : Mesh) (via_cost tries : ℕ) (b : BoardOf) (net : ℕ) (cuts : List Cut) : Type 0 where
  pub ends : Ends b.design m via_cost b.items net cuts
  pub settled : IsNetSettled m via_cost tries b net cuts

-- where no entry came, the net ends so
pub record HasTurned (m : Mesh) (via_cost tries net : ℕ) (old new : BoardOf) (cuts : List Cut) : Type 0 where
  pub quiet : length new.history ≤ length old.history → EndsSettled m via_cost tries old net cuts

-- how all nets end on a board, and that no settled move helps
pub record AreSettledEnds (m : Mesh) (via_cost tries : ℕ) (b : BoardOf) (ends : List (List Cut)) : Type 0 where
  pub ends_are : AreEnds b.design m via_cost b.items (length b.design.nets) ends
  pub settled : AreSettled m via_cost tries b ends

-- where no entry came, all nets end so
pub record HasRounded (m : Mesh) (via_cost tries : ℕ) (old new : BoardOf) (ends : List (List Cut)) : Type 0 where
  pub quiet : length new.history ≤ length old.history → AreSettledEnds m via_cost tries old ends
