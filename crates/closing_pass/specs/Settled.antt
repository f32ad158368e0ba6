-- Settled moves: an item in the way of an island is taken out or moved aside, the island is joined, and then the net of
-- that item is joined again.
use Rattle.std.specs.Prelude.{◌≡◌, ◌⊎◌, ◌↔◌, ℕ, ◌+◌, ◌<◌, ◌≤◌, Bool, false, List, [], ◌∷◌, ◌++◌, length, take}
use Rattle.std.specs.Prelude.{remove, All, Contains, Some, None, slice_get}
use Rattle.std.specs.List.Sorted.{IsStrictlyIncreasing}
use Rattle.geo_kernel.specs.declared.point.Point.{Point}
use Rattle.pcb_model.specs.declared.item.Item.{Item}
use Rattle.pcb_model.specs.declared.design.Design.{Design}
use Rattle.pcb_islands.specs.declared.net.Island.{Island}
use Rattle.pcb_islands.specs.Islands.{AreIslands}
use Rattle.route_lattice.specs.declared.moves.Walk.{Walk}
use Rattle.route_lattice.specs.Mesh.{Mesh}
use Rattle.route_lattice.specs.Legal.{legal_graph}
use Rattle.wave_search.specs.Stated.{IsStated}
use Rattle.path_wire.specs.Wires.{copper_of}
use Rattle.shove.specs.Shoves.{IsWire, IsShove}
use Rattle.cut_certificate.specs.Cuts.{AreStarts, AreGoals}
use Rattle.cut_certificate.specs.declared.cut.Block.{Block}
use Rattle.cut_certificate.specs.declared.cut.Blocker.TheVariants as blocker
use Rattle.cut_certificate.specs.declared.cut.Cut.{Cut}
use Rattle.board_offers.specs.declared.offer.Offer.{Offer}
use Rattle.board_offers.specs.declared.offer.TheConstants.{CLOSER}
use Rattle.board_offers.specs.Items.{added_from}
use Rattle.board_offers.specs.Offers.{IsWellFormed}
use Rattle.pcb_board.specs.Boards.{BoardOf, given}
use Rattle.pcb_board.specs.Answers.{known, joined}
use Rattle.least_offer.specs.Least.{JoinsLeast, TakesNothing, walks_of}

-- ---- what makes way
-- the offer takes out the item with this id
pub record TakesOut (o : Offer) (id : ℕ) : Type 0 where
  pub rip_is : o.rip ≡ id ∷ []
  pub no_shove : o.shoves ≡ []

-- the offer moves one run of the wire with this id by a line, where the wire may lie so
pub record MovesAside (m : Mesh) (b : BoardOf) (o : Offer) (id : ℕ) : Type 0 where
  pub item : Item
  pub there : Contains b.items item
  pub id_is : item.id ≡ id
  pub wire : IsWire item.metal
  pub r : ℕ
  pub up : Bool
  pub chain : List Point
  pub shove : IsShove b.design m b.items item r up chain
  pub shoves_are : o.shoves ≡ record { id = id; chain = chain } ∷ []
  pub no_rip : o.rip ≡ []

-- the offer takes out or moves aside at most one item
abbrev pub TakesOne : Mesh → BoardOf → Offer → Type 0
TakesOne m b o = TakesNothing o ⊎ ((id : ℕ) × (TakesOut o id ⊎ MovesAside m b o id))

-- ---- joins by stated walks
-- an offer of the closing pass for the net, without a penalty, that rests on the board as it is
pub record IsCloserOffer (b : BoardOf) (net : ℕ) (o : Offer) : Type 0 where
  pub worker_is : o.worker ≡ CLOSER
  pub penalty_is : o.penalty ≡ None
  pub base_is : o.base ≡ length b.history
  pub net_is : o.net ≡ net

-- the offer adds the copper of the stated walk from the island to one of the others, on the board without what it takes
-- out and with what it moves aside
pub record LaysStated (m : Mesh) (via_cost : ℕ) (b : BoardOf) (o : Offer) (island : Island)
    (others : List Island) : Type 0 where
  pub joins : JoinsLeast m via_cost b o island others
  pub stated : IsStated (walks_of m via_cost b o o.penalty) joins.starts joins.goals joins.walk

-- the walk is the stated one from the first island of the net to another
pub record JoinsFirst (d : Design) (m : Mesh) (via_cost : ℕ) (items : List Item) (net : ℕ) (w : Walk) : Type 0 where
  pub island : Island
  pub others : List Island
  pub islands : AreIslands d items net (island ∷ others)
  pub starts : List ℕ
  pub starts_are : AreStarts d m items island starts
  pub goals : List ℕ
  pub goals_are : AreGoals d m items others goals
  pub stated : IsStated (legal_graph d m items net via_cost) starts goals w

-- the net has at most so many islands, or more
pub record HasAtMost (d : Design) (items : List Item) (net most : ℕ) : Type 0 where
  pub found : List Island
  pub islands : AreIslands d items net found
  pub few : length found ≤ most

pub record HasMore (d : Design) (items : List Item) (net most : ℕ) : Type 0 where
  pub found : List Island
  pub islands : AreIslands d items net found
  pub many : most < length found

-- While the net has more than so many islands the walks join the first of them, one walk after another, and then it has
-- no more. The copper gets ids from `next` on.
abbrev pub Rejoins : Design → Mesh → ℕ → ℕ → ℕ → List Item → ℕ → List Walk → Type 0
Rejoins d m via_cost net most items next [] = HasAtMost d items net most
Rejoins d m via_cost net most items next (w ∷ ws) =
    let metals = copper_of d m net w.nodes w.moves in
    HasMore d items net most × JoinsFirst d m via_cost items net w
    × Rejoins d m via_cost net most (items ++ added_from d net next metals) (next + length metals) ws

-- ---- settled moves
-- The settled move of this offer and these walks is there, and helps. The offer joins the island past the item with
-- this id, which it takes out or moves aside; the walks join the item's net until it has no more islands than before.
pub record Helps (m : Mesh) (via_cost : ℕ) (b : BoardOf) (island : Island) (others : List Island) (id : ℕ) (o : Offer)
    (walks : List Walk) : Type 0 where
  pub closer : IsCloserOffer b island.net o
  pub aside : TakesOut o id ⊎ MovesAside m b o id
  pub lays : LaysStated m via_cost b o island others
  pub formed : IsWellFormed (known b) o
  pub item : Item
  pub there : Contains b.items item
  pub id_is : item.id ≡ id
  pub net : ℕ
  pub net_is : item.net ≡ Some net
  pub before : List Island
  pub islands : AreIslands b.design b.items net before
  pub rejoins : let c = joined b o in
      Rejoins b.design m via_cost net (length before) c.items (length (given c)) walks

-- no settled move of the item helps the island
abbrev pub IsSettled : Mesh → ℕ → BoardOf → Island → List Island → ℕ → Type 0
IsSettled m via_cost b island others id = (o : Offer) (walks : List Walk)
    → ¬ (Helps m via_cost b island others id o walks)

-- ---- what a cut names
-- a routed item of that id shuts a move that leads out of the cut
pub record IsNamedBy (items : List Item) (cut : Cut) (id : ℕ) : Type 0 where
  pub item : Item
  pub there : Contains items item
  pub id_is : item.id ≡ id
  pub routed : item.fixed ≡ false
  pub block : Block
  pub listed : Contains cut.blocked block
  pub by_is : block.by ≡ blocker.Item id

-- the ids are those of the routed items that the cut names, ascending
pub record AreNamed (items : List Item) (cut : Cut) (ids : List ℕ) : Type 0 where
  pub ascends : IsStrictlyIncreasing ids
  pub exact : (id : ℕ) → Contains ids id ↔ IsNamedBy items cut id

-- no settled move of the first so many of them helps the island
pub record IsCutSettled (m : Mesh) (via_cost tries : ℕ) (b : BoardOf) (island : Island) (others : List Island)
    (cut : Cut) : Type 0 where
  pub ids : List ℕ
  pub named : AreNamed b.items cut ids
  pub settled : All (IsSettled m via_cost b island others) (take tries ids)

-- so it is for each island that has a cut
pub record AreSettled (m : Mesh) (via_cost tries : ℕ) (b : BoardOf) (ends : List (List Cut)) : Type 0 where
  pub each : (net : ℕ) (cuts : List Cut) (found : List Island) (place : ℕ) (island : Island) (cut : Cut)
      → slice_get ends net ≡ Some cuts → AreIslands b.design b.items net found → slice_get found place ≡ Some island
      → slice_get cuts place ≡ Some cut → IsCutSettled m via_cost tries b island (remove found place) cut
