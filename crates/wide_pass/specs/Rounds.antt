-- Rounds of the closing pass with joins at 45 degrees between them, and what is left at the end.
use Rattle.std.specs.Prelude.{◌≡◌, ◌↔◌, ◌⊎◌, ℕ, ◌+◌, ◌<◌, ◌≤◌, List, [], ◌∷◌, ◌++◌, length, flat_map, Contains}
use Rattle.std.specs.Prelude.{slice_get, remove, Some}
use Rattle.std.specs.List.{AllZip}
use Rattle.pcb_model.specs.declared.item.Item.{Item}
use Rattle.pcb_model.specs.declared.design.Design.{Design}
use Rattle.pcb_islands.specs.declared.net.Island.{Island}
use Rattle.pcb_islands.specs.Islands.{AreIslands}
use Rattle.route_lattice.specs.Mesh.{Mesh}
use Rattle.route_lattice.specs.Walks.{IsReach}
use Rattle.path_wire.specs.Diagonals.{wide_graph}
use Rattle.cut_certificate.specs.declared.cut.Cut.{Cut}
use Rattle.cut_certificate.specs.Cuts.{IsStart, IsGoal}
use Rattle.board_offers.specs.declared.offer.Offer.{Offer}
use Rattle.pcb_board.specs.declared.answer.Entry.{Entry}
use Rattle.pcb_board.specs.declared.answer.Entry.TheVariants.{Join}
use Rattle.pcb_board.specs.Boards.{BoardOf, board_at}
use Rattle.least_offer.specs.Least.{IsLeastOffer, IsWideOffer}
use Rattle.closing_pass.specs.Closing.{Closes, AreEnds}
use Rattle.closing_pass.specs.OpenCount.{FewerOpen, NeverMore}
use Rattle.closing_pass.specs.Settled.{AreSettled}
use Rattle.wide_pass.specs.declared.close.Wide.{Wide}

-- ---- what moves reach
-- The nodes that the net's moves, diagonals among them, reach from the island's legal anchors; no anchor of another
-- island is among them.
pub record IsWideReach (d : Design) (m : Mesh) (items : List Item) (via_cost : ℕ) (island : Island)
    (others : List Island) (nodes : List ℕ) : Type 0 where
  pub starts : List ℕ
  pub starts_are : (node : ℕ) → Contains starts node ↔ IsStart d m items island node
  pub reach : IsReach (wide_graph d m items island.net via_cost) starts nodes
  pub goals_out : (node : ℕ) → IsGoal d m items others node → Contains nodes node → ⊥

-- the size of that of the island that the cut shuts in
pub record IsWideSize (d : Design) (m : Mesh) (items : List Item) (via_cost : ℕ) (cut : Cut) (size : ℕ) : Type 0 where
  pub found : List Island
  pub islands : AreIslands d items cut.net found
  pub place : ℕ
  pub island : Island
  pub island_is : slice_get found place ≡ Some island
  pub pin_is : slice_get island.pins 0 ≡ Some cut.pin
  pub nodes : List ℕ
  pub reached : IsWideReach d m items via_cost island (remove found place) nodes
  pub size_is : size ≡ length nodes

-- ---- joins between rounds
-- entry n + 1 is a join by moves at 45 degrees on the board before it
pub record IsWideEntry (m : Mesh) (via_cost : ℕ) (b : BoardOf) (n : ℕ) : Type 0 where
  pub offer : Offer
  pub first : ℕ
  pub after : ℕ
  pub entry_is : slice_get b.history n ≡ Some (Join offer first after)
  pub base_is : offer.base ≡ n
  pub wide : IsWideOffer m via_cost (board_at b n) offer

-- the new board is the old one with one such join or more behind its history, and fewer connections are open there
pub record JoinsWide (m : Mesh) (via_cost : ℕ) (old new : BoardOf) : Type 0 where
  pub design_stays : new.design ≡ old.design
  pub start_stays : new.start ≡ old.start
  pub cap_stays : new.cap ≡ old.cap
  pub entries : List Entry
  pub history_is : new.history ≡ old.history ++ entries
  pub some : 0 < length entries
  pub each : (n : ℕ) → length old.history ≤ n → n < length new.history → IsWideEntry m via_cost new n
  pub fewer : FewerOpen old new

-- each board of the list is one at which a round begins again: a closing pass and such joins lead to it. So each round
-- but the last leaves fewer connections open.
abbrev pub Rounds : Mesh → ℕ → List BoardOf → BoardOf → BoardOf → Type 0
Rounds m via_cost [] old new = Closes m via_cost old new
Rounds m via_cost (b ∷ bs) old new =
    (c : BoardOf) × Closes m via_cost old c × JoinsWide m via_cost c b × Rounds m via_cost bs b new

pub record ClosesWide (m : Mesh) (via_cost : ℕ) (old new : BoardOf) : Type 0 where
  pub boards : List BoardOf
  pub rounds : Rounds m via_cost boards old new

-- entry n + 1, if it is a join, is a least offer on the board after its base, or one by a walk with diagonals
pub record IsJoinAt (m : Mesh) (via_cost : ℕ) (b : BoardOf) (n : ℕ) : Type 0 where
  pub each : (o : Offer) (first after : ℕ) → slice_get b.history n ≡ Some (Join o first after)
      → (o.base ≡ n) × (IsLeastOffer m via_cost (board_at b o.base) o ⊎ IsWideOffer m via_cost (board_at b o.base) o)

-- what comes back for want of memory: the board with what was joined, and no more connections are open than before
pub record HasClosedWide (m : Mesh) (via_cost : ℕ) (old new : BoardOf) : Type 0 where
  pub closes : ClosesWide m via_cost old new
  pub fewer : NeverMore old new

-- what the closing pass with rounds answers: the board with its joins, how many they are, how each net ends there, that
-- no settled move helps, and for each cut how many nodes moves with diagonals reach
pub record IsClosedWide (m : Mesh) (via_cost tries : ℕ) (old : BoardOf) (w : Wide) : Type 0 where
  pub closes : ClosesWide m via_cost old w.closed.board
  pub count : length old.history + w.closed.joins ≡ length w.closed.board.history
  pub ends : AreEnds w.closed.board.design m via_cost w.closed.board.items (length w.closed.board.design.nets)
      w.closed.ends
  pub settled : AreSettled m via_cost tries w.closed.board w.closed.ends
  pub fewer : NeverMore old w.closed.board
  pub wide : AllZip (IsWideSize w.closed.board.design m w.closed.board.items via_cost)
      (flat_map (λ (cuts : List Cut). cuts) w.closed.ends) w.wide
