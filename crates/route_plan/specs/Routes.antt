-- Routes: the copper of a walk between two islands of a net, and the items that it joins.
use Rattle.std.specs.Prelude.{◌≡◌, ℕ, List, ◌∷◌, Contains, Option, Some, None}
use Rattle.pcb_model.specs.declared.item.Item.{Item}
use Rattle.pcb_model.specs.declared.design.Design.{Design}
use Rattle.pcb_islands.specs.declared.net.Island.{Island}
use Rattle.route_lattice.specs.Mesh.{Mesh}
use Rattle.route_lattice.specs.declared.moves.Walk.{Walk}
use Rattle.route_lattice.specs.Walks.{MoveGraph, IsWalk, IsLeastWalk}
use Rattle.wave_search.specs.Stated.{IsStated}
use Rattle.route_lattice.specs.Anchors.{Anchors, AnchorsAmong}
use Rattle.path_wire.specs.Wires.{copper_of}
use Rattle.path_wire.specs.Joins.{last_node}
use Rattle.cut_certificate.specs.Cuts.{AreStarts, AreGoals}
use Rattle.route_plan.specs.declared.route.Route.{Route}
use Rattle.route_plan.specs.declared.route.Routed.{Routed}
use Rattle.route_plan.specs.declared.route.Routed.TheVariants as routed
use Rattle.route_plan.specs.Plans.{IsShutFrom, moves_of}
use Rattle.route_plan.specs.Searches.{NetSearchOf}

-- an item of the copper with this id, which is among the ids, is anchored at the node
pub record IsAnchored (d : Design) (m : Mesh) (items : List Item) (ids : List ℕ) (node id : ℕ) : Type 0 where
  pub item : Item
  pub there : Contains items item
  pub id_is : item.id ≡ id
  pub asked : Contains ids id
  pub anchors : Anchors d m node item

-- such an id, or none where no item with one of the ids is anchored there
abbrev pub FindsAnchored : Design → Mesh → List Item → List ℕ → ℕ → Option ℕ → Type 0
FindsAnchored d m items ids node (Some id) = IsAnchored d m items ids node id
FindsAnchored d m items ids node None = ¬ (AnchorsAmong d m items ids node)

-- no item with this id is anchored at the node
abbrev pub NoneAnchored : Design → Mesh → List Item → ℕ → ℕ → Type 0
NoneAnchored d m items node id = (a : Item) → Contains items a → a.id ≡ id → ¬ (Anchors d m node a)

-- an item of one of the islands is anchored at the node
pub record IsAnchoredIn (d : Design) (m : Mesh) (items : List Item) (others : List Island) (node id : ℕ) : Type 0 where
  pub other : Island
  pub other_there : Contains others other
  pub anchored : IsAnchored d m items other.items node id

-- a least walk from the island to one of the others, its copper, and the items that it joins
pub record IsRoute (d : Design) (m : Mesh) (items : List Item) (net via_cost : ℕ) (penalty : Option ℕ)
    (island : Island) (others : List Island) (route : Route) : Type 0 where
  pub starts : List ℕ
  pub starts_are : AreStarts d m items island starts
  pub goals : List ℕ
  pub goals_are : AreGoals d m items others goals
  pub walk : Walk
  pub least : IsLeastWalk (moves_of d m items net via_cost penalty) starts goals walk
  pub metals_are : route.metals ≡ copper_of d m net walk.nodes walk.moves
  pub start : ℕ
  pub rest : List ℕ
  pub nodes_are : walk.nodes ≡ start ∷ rest
  pub from_anchored : IsAnchored d m items island.items start route.from
  pub to_anchored : IsAnchoredIn d m items others (last_node start rest) route.to

-- a route, or all that moves reach where no walk leads on
abbrev pub Finds : Design → Mesh → List Item → ℕ → ℕ → Option ℕ → Island → List Island → Routed → Type 0
Finds d m items net via_cost penalty island others
    (routed.Route route) = IsRoute d m items net via_cost penalty island others route
Finds d m items net via_cost penalty island others
    (routed.Shut reach) = IsShutFrom d m items net via_cost penalty island others reach.nodes

-- what a search finds, and the moves that its walks go over
abbrev pub FindsRoute : NetSearchOf → Routed → Type 0
FindsRoute s found = Finds s.on.d s.on.lat s.on.items s.island.net s.via_cost s.penalty s.island s.others found

abbrev pub walks_of : NetSearchOf → MoveGraph
walks_of s = moves_of s.on.d s.on.lat s.on.items s.island.net s.via_cost s.penalty

-- ---- walks from an island
-- the walk leads from the island to one of the others
pub record JoinsIslands (s : NetSearchOf) (w : Walk) : Type 0 where
  pub starts : List ℕ
  pub starts_are : AreStarts s.on.d s.on.lat s.on.items s.island starts
  pub goals : List ℕ
  pub goals_are : AreGoals s.on.d s.on.lat s.on.items s.others goals
  pub walk : IsWalk (walks_of s) starts goals w

-- the copper of the walk, and items that are anchored at its ends
pub record IsRouteOf (s : NetSearchOf) (w : Walk) (route : Route) : Type 0 where
  pub metals_are : route.metals ≡ copper_of s.on.d s.on.lat s.island.net w.nodes w.moves
  pub start : ℕ
  pub rest : List ℕ
  pub nodes_are : w.nodes ≡ start ∷ rest
  pub from_anchored : IsAnchored s.on.d s.on.lat s.on.items s.island.items start route.from
  pub to_anchored : IsAnchoredIn s.on.d s.on.lat s.on.items s.others (last_node start rest) route.to

-- the route of the stated walk
pub record IsStatedRoute (s : NetSearchOf) (route : Route) : Type 0 where
  pub is_route : IsRoute s.on.d s.on.lat s.on.items s.island.net s.via_cost s.penalty s.island s.others route
  pub stated : IsStated (walks_of s) is_route.starts is_route.goals is_route.walk

-- such a route, or all that moves reach where no walk leads on
abbrev pub FindsStated : NetSearchOf → Routed → Type 0
FindsStated s (routed.Route route) = IsStatedRoute s route
FindsStated s (routed.Shut reach) =
    IsShutFrom s.on.d s.on.lat s.on.items s.island.net s.via_cost s.penalty s.island s.others reach.nodes

-- some walk leads from the island to one of the others
abbrev pub IsLed : NetSearchOf → Type 0
IsLed s = (w : Walk) × JoinsIslands s w

-- the route of the stated walk, or none where no walk leads on
abbrev pub FindsPast : NetSearchOf → Option Route → Type 0
FindsPast s (Some route) = IsStatedRoute s route
FindsPast s None = ¬ (IsLed s)
