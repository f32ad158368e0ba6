-- Joins of one net by moves at 45 degrees.
use Rattle.std.specs.Prelude.{◌≡◌, ℕ, Bool, true, false, List, length, remove, slice_get, Some}
use Rattle.pcb_model.specs.declared.item.Item.{Item}
use Rattle.pcb_model.specs.declared.design.Design.{Design}
use Rattle.pcb_islands.specs.declared.net.Island.{Island}
use Rattle.pcb_islands.specs.Islands.{AreIslands}
use Rattle.route_lattice.specs.Mesh.{Mesh}
use Rattle.board_offers.specs.declared.offer.Offer.{Offer}
use Rattle.pcb_board.specs.Boards.{BoardOf}
use Rattle.pcb_board.specs.Answers.{joined}
use Rattle.least_offer.specs.Least.{IsWideOffer, MayBeMade}
use Rattle.wide_offer.specs.Leading.{LeadsWide}

-- an offer by such moves for the net was committed, which rests on the board as it was and may be made there
pub record IsJoined (m : Mesh) (via_cost net : ℕ) (old new : BoardOf) : Type 0 where
  pub offer : Offer
  pub wide : IsWideOffer m via_cost old offer
  pub base_is : offer.base ≡ length old.history
  pub net_is : offer.net ≡ net
  pub may : MayBeMade old offer
  pub new_is : new ≡ joined old offer

-- such moves don't lead from the island at a place to another
abbrev pub IsWideShutAt : Design → Mesh → ℕ → List Item → List Island → ℕ → Type 0
IsWideShutAt d m via_cost items found place =
    (island : Island) → slice_get found place ≡ Some island
    → ¬ (LeadsWide d m items via_cost island (remove found place))

-- nor from any of the net
pub record IsWideShut (d : Design) (m : Mesh) (via_cost : ℕ) (items : List Item) (net : ℕ) : Type 0 where
  pub each : (found : List Island) → AreIslands d items net found → (place : ℕ)
      → IsWideShutAt d m via_cost items found place

-- the island at the place was joined; or such moves don't lead on from it, and the board stays
abbrev pub Tries : Mesh → ℕ → ℕ → List Island → ℕ → BoardOf → BoardOf → Bool → Type 0
Tries m via_cost net found place old new true = IsJoined m via_cost net old new
Tries m via_cost net found place old new false = IsWideShutAt old.design m via_cost old.items found place × (new ≡ old)

-- some island was joined, or none leads on and the board stays
abbrev pub TriesNet : Mesh → ℕ → ℕ → BoardOf → BoardOf → Bool → Type 0
TriesNet m via_cost net old new true = IsJoined m via_cost net old new
TriesNet m via_cost net old new false = IsWideShut old.design m via_cost old.items net × (new ≡ old)
