-- Routes: the copper of a walk with diagonals between two islands of a net, and the items that it joins.
use Rattle.std.specs.Prelude.{◌≡◌, ℕ, List, [], ◌∷◌, Contains, Option, Some, None}
use Rattle.pcb_model.specs.declared.item.Item.{Item}
use Rattle.pcb_model.specs.declared.design.Design.{Design}
use Rattle.pcb_islands.specs.declared.net.Island.{Island}
use Rattle.route_lattice.specs.declared.moves.Walk.{Walk}
use Rattle.route_lattice.specs.Mesh.{Mesh}
use Rattle.route_lattice.specs.Walks.{IsWalk, IsLeastWalk}
use Rattle.route_lattice.specs.Anchors.{Anchors, AnchorsAmong}
use Rattle.path_wire.specs.Wires.{copper_of}
use Rattle.path_wire.specs.Joins.{last_node}
use Rattle.path_wire.specs.Diagonals.{wide_graph}
use Rattle.cut_certificate.specs.Cuts.{AreStarts, AreGoals}
use Rattle.board_offers.specs.declared.offer.Offer.{Offer}
use Rattle.board_offers.specs.declared.offer.TheConstants.{CLOSER}
use Rattle.wide_offer.specs.declared.search.Route.{Route}
use Rattle.wide_offer.specs.Leading.{LeadsWide}

-- ---- items at a node
-- an item of the copper with this id, which is among the ids, is anchored at the node
pub record IsAnchored (d : Design) (m : Mesh) (items : List Item) (ids : List ℕ) (node id : ℕ) : Type 0 where
  pub item : Item
  pub there : Contains items item
  pub id_is : item.id ≡ id
  pub asked : Contains ids id
  pub anchors : Anchors d m node item

-- such an id, or none where no item with one of the ids is anchored there
abbrev pub FindsAnchored : Design → Mesh → List Item → List ℕ → ℕ → Option ℕ → Type 0
FindsAnchored d m items ids node (Some id) = IsAnchored d m items ids node id
FindsAnchored d m items ids node None = ¬ (AnchorsAmong d m items ids node)

-- no item with this id is anchored at the node
abbrev pub NoneAnchored : Design → Mesh → List Item → ℕ → ℕ → Type 0
NoneAnchored d m items node id = (a : Item) → Contains items a → a.id ≡ id → ¬ (Anchors d m node a)

-- an item of one of the islands is anchored at the node
pub record IsAnchoredIn (d : Design) (m : Mesh) (items : List Item) (others : List Island) (node id : ℕ) : Type 0 where
  pub other : Island
  pub other_there : Contains others other
  pub anchored : IsAnchored d m items other.items node id

-- ---- walks
-- the walk leads from the island to one of the others
pub record LeadsBetween (d : Design) (m : Mesh) (items : List Item) (via_cost : ℕ) (island : Island)
    (others : List Island) (w : Walk) : Type 0 where
  pub starts : List ℕ
  pub starts_are : AreStarts d m items island starts
  pub goals : List ℕ
  pub goals_are : AreGoals d m items others goals
  pub walk : IsWalk (wide_graph d m items island.net via_cost) starts goals w

-- the copper of the walk, and items that are anchored at its ends
pub record IsRouteOf (d : Design) (m : Mesh) (items : List Item) (island : Island) (others : List Island) (w : Walk)
    (route : Route) : Type 0 where
  pub metals_are : route.metals ≡ copper_of d m island.net w.nodes w.moves
  pub start : ℕ
  pub rest : List ℕ
  pub nodes_are : w.nodes ≡ start ∷ rest
  pub from_anchored : IsAnchored d m items island.items start route.from
  pub to_anchored : IsAnchoredIn d m items others (last_node start rest) route.to

-- the route of a least walk
pub record IsRoute (d : Design) (m : Mesh) (items : List Item) (via_cost : ℕ) (island : Island) (others : List Island)
    (route : Route) : Type 0 where
  pub starts : List ℕ
  pub starts_are : AreStarts d m items island starts
  pub goals : List ℕ
  pub goals_are : AreGoals d m items others goals
  pub walk : Walk
  pub least : IsLeastWalk (wide_graph d m items island.net via_cost) starts goals walk
  pub of_walk : IsRouteOf d m items island others walk route

-- such a route, or no walk leads so
abbrev pub FindsRoute : Design → Mesh → List Item → ℕ → Island → List Island → Option Route → Type 0
FindsRoute d m items via_cost island others (Some route) = IsRoute d m items via_cost island others route
FindsRoute d m items via_cost island others None = ¬ (LeadsWide d m items via_cost island others)

-- ---- offers
-- the offer of a route of the net for the board with so many entries
pub record IsOfferOfRoute (base net : ℕ) (route : Route) (o : Offer) : Type 0 where
  pub base_is : o.base ≡ base
  pub worker_is : o.worker ≡ CLOSER
  pub net_is : o.net ≡ net
  pub penalty_is : o.penalty ≡ None
  pub from_is : o.from ≡ route.from
  pub to_is : o.to ≡ route.to
  pub add_is : o.add ≡ route.metals
  pub rip_is : o.rip ≡ []
  pub shoves_is : o.shoves ≡ []
