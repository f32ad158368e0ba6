-- What a closing pass leaves: joins by least walks, and how each net ends.
use Rattle.std.specs.Prelude.{◌≡◌, ◌⊎◌, ℕ, ◌+◌, ◌≤◌, ◌^◌, List, [], ◌++◌, length, remove, All, None, Some, slice_get}
use Rattle.pcb_model.specs.declared.item.Item.{Item}
use Rattle.pcb_model.specs.declared.design.Design.{Design}
use Rattle.pcb_islands.specs.declared.net.Island.{Island}
use Rattle.pcb_islands.specs.Islands.{AreIslands, IsComplete}
use Rattle.pcb_model.specs.Plain.{IsPlainCopper}
use Rattle.route_lattice.specs.Mesh.{Mesh}
use Rattle.route_lattice.specs.Fits.{FitsDesign}
use Rattle.cut_certificate.specs.declared.cut.Cut.{Cut}
use Rattle.cut_certificate.specs.Cuts.{Cuts}
use Rattle.board_offers.specs.declared.offer.Offer.{Offer}
use Rattle.pcb_board.specs.declared.answer.Entry.{Entry}
use Rattle.pcb_board.specs.declared.answer.Entry.TheVariants.{Join, Back}
use Rattle.pcb_board.specs.Boards.{BoardOf, board_at}
use Rattle.least_offer.specs.Least.{IsLeastOffer}
use Rattle.closing_pass.specs.declared.closed.Closed.{Closed}
use Rattle.closing_pass.specs.OpenCount.{NeverMore}
use Rattle.closing_pass.specs.Settled.{AreSettled, TakesOne}
use Rattle.board_offers.specs.declared.offer.TheConstants.{CLOSER}

-- what is asked of a board's design: it is of plain copper, the lattice fits it, and the price of a via is small
pub record CanClose (m : Mesh) (via_cost : ℕ) (d : Design) : Type 0 where
  pub plain : IsPlainCopper d
  pub fits : FitsDesign d m
  pub small_cost : via_cost ≤ 2 ^ 30

-- ---- joins
-- a join of the worker that bears no penalty
abbrev pub IsCloserJoin : ℕ → Entry → Type 0
IsCloserJoin worker (Join o first after) = (o.worker ≡ worker) × (o.penalty ≡ None)
IsCloserJoin worker (Back to) = ⊥

-- entry n + 1, if it is a join, is a least offer on the board after the n entries before it, which are its base, and
-- takes out or moves aside at most one item
pub record IsLeastAt (m : Mesh) (via_cost : ℕ) (b : BoardOf) (n : ℕ) : Type 0 where
  pub each : (o : Offer) (first after : ℕ) → slice_get b.history n ≡ Some (Join o first after)
      → (o.base ≡ n) × IsLeastOffer m via_cost (board_at b o.base) o × TakesOne m (board_at b o.base) o

-- the new board is the old one with such joins of the worker behind its history, each of them such an offer
pub record JoinsBy (worker : ℕ) (m : Mesh) (via_cost : ℕ) (old new : BoardOf) : Type 0 where
  pub design_stays : new.design ≡ old.design
  pub start_stays : new.start ≡ old.start
  pub cap_stays : new.cap ≡ old.cap
  pub entries : List Entry
  pub history_is : new.history ≡ old.history ++ entries
  pub joins : All (IsCloserJoin worker) entries
  pub least : (n : ℕ) → length old.history ≤ n → IsLeastAt m via_cost new n

-- the closing pass joins as the worker CLOSER
abbrev pub Closes : Mesh → ℕ → BoardOf → BoardOf → Type 0
Closes m via_cost old new = JoinsBy CLOSER m via_cost old new

-- ---- how nets end
-- each island has its cut, of all nodes that legal moves reach from it
pub record HaveCuts (d : Design) (m : Mesh) (via_cost : ℕ) (items : List Item) (found : List Island)
    (cuts : List Cut) : Type 0 where
  pub all : length cuts ≡ length found
  pub each : (place : ℕ) (island : Island) (cut : Cut) → slice_get found place ≡ Some island
      → slice_get cuts place ≡ Some cut
      → Cuts d m items via_cost island (remove found place) (Some cut)

-- the net is complete and has no cut; or it has several islands, and each has its cut
pub record Ends (d : Design) (m : Mesh) (via_cost : ℕ) (items : List Item) (net : ℕ) (cuts : List Cut) : Type 0 where
  pub found : List Island
  pub islands : AreIslands d items net found
  pub ends : (IsComplete d items net × (cuts ≡ [])) ⊎ ((2 ≤ length found) × HaveCuts d m via_cost items found cuts)

-- so each of the first n nets ends
pub record AreEnds (d : Design) (m : Mesh) (via_cost : ℕ) (items : List Item) (n : ℕ) (ends : List (List Cut)) : Type
    0 where
  pub all : length ends ≡ n
  pub each : (net : ℕ) (cuts : List Cut) → slice_get ends net ≡ Some cuts → Ends d m via_cost items net cuts

-- what comes back for want of memory: the board with what was joined, and no more connections are open than before
pub record HasClosed (m : Mesh) (via_cost : ℕ) (old new : BoardOf) : Type 0 where
  pub closes : Closes m via_cost old new
  pub fewer : NeverMore old new

-- what a closing pass answers: the board with its joins, how many they are, how each net ends there, and that no
-- settled move of the first `tries` items that a cut names helps
pub record IsClosedOut (m : Mesh) (via_cost tries : ℕ) (old : BoardOf) (c : Closed) : Type 0 where
  pub closes : Closes m via_cost old c.board
  pub count : length old.history + c.joins ≡ length c.board.history
  pub ends : AreEnds c.board.design m via_cost c.board.items (length c.board.design.nets) c.ends
  pub settled : AreSettled m via_cost tries c.board c.ends
  pub fewer : NeverMore old c.board
