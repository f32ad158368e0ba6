-- Least offers: what lays the copper of a least walk between two islands, and what it takes out or moves aside for it.
use Rattle.std.specs.Prelude.{◌≡◌, ◌⊎◌, ◌↔◌, ℕ, ◌<◌, Bool, true, false, List, [], ◌∷◌, ◌++◌, All, Any, Contains, Option}
use Rattle.std.specs.Prelude.{Some, None, slice_get, remove}
use Rattle.std.specs.List.{AllZip}
use Rattle.geo_kernel.specs.declared.point.Point.{Point}
use Rattle.pcb_model.specs.declared.item.Item.{Item}
use Rattle.pcb_model.specs.declared.design.Design.{Design}
use Rattle.pcb_model.specs.Pairs.{Agrees}
use Rattle.pcb_islands.specs.declared.net.Island.{Island}
use Rattle.pcb_islands.specs.Islands.{AreIslands}
use Rattle.route_lattice.specs.declared.moves.Walk.{Walk}
use Rattle.route_lattice.specs.Mesh.{Mesh, node_count}
use Rattle.route_lattice.specs.Walks.{MoveGraph, IsLeastWalk, NoneLeads}
use Rattle.route_lattice.specs.Anchors.{Anchors, AnchorsAmong}
use Rattle.route_lattice.specs.Legal.{IsLegalNode, legal_graph}
use Rattle.path_wire.specs.Wires.{copper_of}
use Rattle.path_wire.specs.Diagonals.{wide_graph}
use Rattle.path_wire.specs.Joins.{last_node}
use Rattle.ripup.specs.Rips.{AreIdsInWay, rip_graph}
use Rattle.shove.specs.Shoves.{IsShove, IsWire, reshaped}
use Rattle.board_offers.specs.declared.offer.Offer.{Offer}
use Rattle.board_offers.specs.declared.offer.Shoved.{Shoved}
use Rattle.board_offers.specs.Items.{added, gone, without, replaced}
use Rattle.pcb_board.specs.Boards.{BoardOf, given}
use Rattle.board_offers.specs.Offers.{IsWellFormed}
use Rattle.pcb_board.specs.Answers.{known, IsClearOn}
use Rattle.board_offers.specs.declared.offer.TheConstants.{CLOSER}

-- ---- an offer that may be made
-- it is well formed, and there is no trouble at any id
pub record MayBeMade (b : BoardOf) (o : Offer) : Type 0 where
  pub formed : IsWellFormed (known b) o
  pub clear : (x : ℕ) → IsClearOn b o x

-- ---- walks
-- the board without what the offer rips and shoves, and with the replacements
abbrev pub cleared : BoardOf → Offer → List Item
cleared b o = without (gone o) b.items ++ replaced b.design (given b) o

-- without a penalty walks and their starts are judged on that board; with one a walk's moves pass routed items, and
-- its start is judged on the board as it is
abbrev pub walks_of : Mesh → ℕ → BoardOf → Offer → Option ℕ → MoveGraph
walks_of m via_cost b o None = legal_graph b.design m (cleared b o) o.net via_cost
walks_of m via_cost b o (Some penalty) = rip_graph b.design m b.items o.net via_cost penalty

abbrev pub judged_on : BoardOf → Offer → Option ℕ → List Item
judged_on b o None = cleared b o
judged_on b o (Some penalty) = b.items

-- a node at which a walk may begin: it anchors an item of the island, and its disc is legal
pub record IsStartOf (b : BoardOf) (m : Mesh) (o : Offer) (island : Island) (node : ℕ) : Type 0 where
  pub there : node < node_count m
  pub anchors : AnchorsAmong b.design m b.items island.items node
  pub legal : IsLegalNode b.design m (judged_on b o o.penalty) o.net node

-- a node at which a walk may end: it anchors an item of one of the islands
pub record IsGoalOf (b : BoardOf) (m : Mesh) (others : List Island) (node : ℕ) : Type 0 where
  pub there : node < node_count m
  pub anchors : Any (λ (o : Island). AnchorsAmong b.design m b.items o.items node) others

-- the item with this id is on the board, is of the island, and is anchored at the node
pub record IsAnchoredAt (b : BoardOf) (m : Mesh) (island : Island) (node id : ℕ) : Type 0 where
  pub item : Item
  pub there : Contains b.items item
  pub id_is : item.id ≡ id
  pub asked : Contains island.items id
  pub anchors : Anchors b.design m node item

-- the offer adds the copper of a least walk of the graph from the island to one of the others, and joins items that
-- are anchored at its ends
pub record JoinsOver (graph : MoveGraph) (m : Mesh) (b : BoardOf) (o : Offer) (island : Island)
    (others : List Island) : Type 0 where
  pub starts : List ℕ
  pub starts_are : (node : ℕ) → Contains starts node ↔ IsStartOf b m o island node
  pub goals : List ℕ
  pub goals_are : (node : ℕ) → Contains goals node ↔ IsGoalOf b m others node
  pub walk : Walk
  pub least : IsLeastWalk graph starts goals walk
  pub add_is : o.add ≡ copper_of b.design m o.net walk.nodes walk.moves
  pub start : ℕ
  pub rest : List ℕ
  pub nodes_are : walk.nodes ≡ start ∷ rest
  pub from_anchored : IsAnchoredAt b m island start o.from
  pub other : Island
  pub other_there : Contains others other
  pub to_anchored : IsAnchoredAt b m other (last_node start rest) o.to

-- of a least walk over the moves that the offer's penalty, or none, lets be
abbrev pub JoinsLeast : Mesh → ℕ → BoardOf → Offer → Island → List Island → Type 0
JoinsLeast m via_cost b o = JoinsOver (walks_of m via_cost b o o.penalty) m b o

-- ---- what is in the way
-- run r of the item, moved up or down, gives the chain; the item with it fits among the others, and beside the new
-- items
pub record Fits (d : Design) (m : Mesh) (items new : List Item) (a : Item) (r : ℕ) (up : Bool)
    (chain : List Point) : Type 0 where
  pub wire : IsWire a.metal
  pub shove : IsShove d m items a r up chain
  pub agrees : All (λ (n : Item). Agrees d n (reshaped d a.id chain a)) new

-- runs are tried in order, each up before down
abbrev pub IsTriedBefore : ℕ → Bool → ℕ → Bool → Type 0
IsTriedBefore r up s down = (r < s) ⊎ ((r ≡ s) × (up ≡ true) × (down ≡ false))

-- the first that fits
pub record FitsFirst (d : Design) (m : Mesh) (items new : List Item) (a : Item) (chain : List Point) : Type 0 where
  pub r : ℕ
  pub up : Bool
  pub fits : Fits d m items new a r up chain
  pub first : (s : ℕ) (down : Bool) (other : List Point) → IsTriedBefore s down r up
      → ¬ (Fits d m items new a s down other)

-- the item with this id is shoved to the first chain that fits
pub record IsShoveOf (d : Design) (m : Mesh) (items new : List Item) (id : ℕ) (s : Shoved) : Type 0 where
  pub id_is : s.id ≡ id
  pub item : Item
  pub there : Contains items item
  pub item_is : item.id ≡ id
  pub first : FitsFirst d m items new item s.chain

-- each of the ids has its shove, in order
abbrev pub AreShovesOf : Design → Mesh → List Item → List Item → List ℕ → List Shoved → Type 0
AreShovesOf d m items new ids shoves = AllZip (IsShoveOf d m items new) ids shoves

-- the offer with these shoves, and no rip
abbrev pub shoving : Offer → List Shoved → Offer
shoving o shoves = record o { rip = []; shoves = shoves }

-- it shoves all that is in the way, which may be done
pub record ShovesAll (m : Mesh) (b : BoardOf) (o : Offer) (ids : List ℕ) : Type 0 where
  pub shoves_are : AreShovesOf b.design m b.items (added b.design (given b) o) ids o.shoves
  pub no_rip : o.rip ≡ []
  pub may : MayBeMade b o

-- it rips all that is in the way, since not all of that can be shoved, or not together
pub record RipsAll (m : Mesh) (b : BoardOf) (o : Offer) (ids : List ℕ) : Type 0 where
  pub rips_are : o.rip ≡ ids
  pub no_shove : o.shoves ≡ []
  pub may_not : (shoves : List Shoved) → AreShovesOf b.design m b.items (added b.design (given b) o) ids shoves
      → ¬ (MayBeMade b (shoving o shoves))

-- all routed items that disagree with what the offer adds are shoved, or else ripped
pub record MakesWay (m : Mesh) (b : BoardOf) (o : Offer) : Type 0 where
  pub ids : List ℕ
  pub in_way : AreIdsInWay b.design b.items (added b.design (given b) o) ids
  pub chosen : ShovesAll m b o ids ⊎ RipsAll m b o ids

-- a worker's offer takes nothing out without a penalty
pub record TakesNothing (o : Offer) : Type 0 where
  pub no_rip : o.rip ≡ []
  pub no_shove : o.shoves ≡ []

abbrev pub Chooses : Mesh → BoardOf → Offer → Option ℕ → Type 0
Chooses m b o (Some penalty) = MakesWay m b o
Chooses m b o None = o.worker < CLOSER → TakesNothing o

-- ---- least offers
-- a least walk of the graph for the offer, whatever it takes out
pub record IsLaidOver (graph : MoveGraph) (m : Mesh) (b : BoardOf) (o : Offer) : Type 0 where
  pub found : List Island
  pub islands : AreIslands b.design b.items o.net found
  pub place : ℕ
  pub island : Island
  pub island_is : slice_get found place ≡ Some island
  pub joins : JoinsOver graph m b o island (remove found place)

abbrev pub IsLaidLeast : Mesh → ℕ → BoardOf → Offer → Type 0
IsLaidLeast m via_cost b o = IsLaidOver (walks_of m via_cost b o o.penalty) m b o

-- a worker's offer begins at the first island of the net
pub record IsLeastOffer (m : Mesh) (via_cost : ℕ) (b : BoardOf) (o : Offer) : Type 0 where
  pub found : List Island
  pub islands : AreIslands b.design b.items o.net found
  pub place : ℕ
  pub island : Island
  pub island_is : slice_get found place ≡ Some island
  pub first : o.worker < CLOSER → place ≡ 0
  pub joins : JoinsLeast m via_cost b o island (remove found place)
  pub chooses : Chooses m b o o.penalty

-- ---- offers with moves at 45 degrees
-- a join of the closing pass by a walk with such moves: none costs less, it takes nothing out, and no legal walk leads
-- from that island to another
pub record IsWideOffer (m : Mesh) (via_cost : ℕ) (b : BoardOf) (o : Offer) : Type 0 where
  pub closer : o.worker ≡ CLOSER
  pub no_penalty : o.penalty ≡ None
  pub takes : TakesNothing o
  pub laid : IsLaidOver (wide_graph b.design m b.items o.net via_cost) m b o
  pub shut : NoneLeads (legal_graph b.design m b.items o.net via_cost) laid.joins.starts laid.joins.goals
