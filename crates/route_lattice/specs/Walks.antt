-- Nodes, the moves between them, and walks.
use Rattle.std.specs.Prelude.{◌≡◌, ℕ, ◌+◌, ◌^◌, ◌≤◌, ◌<◌, List, [], ◌∷◌, map, Option, Some, Contains}
use Rattle.std.specs.List.Sorted.{IsStrictlyIncreasing}
use Rattle.route_lattice.specs.declared.moves.Move.{Move}
use Rattle.route_lattice.specs.declared.moves.Found.{Found}
use Rattle.route_lattice.specs.declared.moves.Walk.{Walk}

-- a number of nodes and, for move i of a node, where it leads, whether it is open, and what it costs
pub record MoveGraph : Type 1 where
  pub count : ℕ
  pub arity : ℕ
  pub at : ℕ → ℕ → Option (Move × ℕ)
  pub open_at : ℕ → ℕ → Type 0
  pub priced : ℕ → ℕ → ℕ → Type 0

-- what a search asks of the nodes and moves
pub record IsSound (graph : MoveGraph) : Type 0 where
  pub nodes : graph.count ≤ 2 ^ 24 + 1
  pub leads : (node i : ℕ) (m : Move) (to : ℕ) → node < graph.count → i < graph.arity → graph.at node i ≡ Some (m, to)
      → to < graph.count
  pub small_price : (node i p : ℕ) → node < graph.count → i < graph.arity → graph.priced node i p → p ≤ 2 ^ 35
  pub one_price : (node i p q : ℕ) → node < graph.count → i < graph.arity → graph.priced node i p
      → graph.priced node i q → p ≡ q

-- one move of a walk: its index at the node that it leaves, what it is, where it leads, and what it costs
pub record Hop : Type 0 where
  pub index : ℕ
  pub move : Move
  pub to : ℕ
  pub price : ℕ

-- the hop is an open move of the node, at its price
pub record Opens (graph : MoveGraph) (node : ℕ) (hop : Hop) : Type 0 where
  pub listed : hop.index < graph.arity
  pub leads : graph.at node hop.index ≡ Some (hop.move, hop.to)
  pub is_open : graph.open_at node hop.index
  pub costs : graph.priced node hop.index hop.price

-- the hops lead from a to b, and each is an open move
abbrev pub Leads : MoveGraph → ℕ → List Hop → ℕ → Type 0
Leads graph a [] b = a ≡ b
Leads graph a (h ∷ hs) b = Opens graph a h × Leads graph h.to hs b

abbrev pub to_of : Hop → ℕ
to_of h = h.to

abbrev pub move_of : Hop → Move
move_of h = h.move

-- the sum of the prices of the moves
abbrev pub cost : List Hop → ℕ
cost [] = 0
cost (h ∷ hs) = h.price + cost hs

-- open moves lead from a start to the node
abbrev pub Reaches : MoveGraph → List ℕ → ℕ → Type 0
Reaches graph starts node = (s : ℕ) × (hs : List Hop) × Contains starts s × Leads graph s hs node

-- w is a walk from a start to a goal over open moves
pub record IsWalk (graph : MoveGraph) (starts goals : List ℕ) (w : Walk) : Type 0 where
  pub from : ℕ
  pub hops : List Hop
  pub to : ℕ
  pub starts_in : Contains starts from
  pub ends_in : Contains goals to
  pub leads : Leads graph from hops to
  pub nodes : w.nodes ≡ from ∷ map to_of hops
  pub moves : w.moves ≡ map move_of hops
  pub price : w.price ≡ cost hops

-- no walk from a start to a goal costs less than p
abbrev pub NoneCostsLess : MoveGraph → List ℕ → List ℕ → ℕ → Type 0
NoneCostsLess graph starts goals p =
    (s : ℕ) (hs : List Hop) (g : ℕ) → Contains starts s → Contains goals g → Leads graph s hs g → p ≤ cost hs

-- w is a walk from a start to a goal, no such walk costs less, and its price is below 2^60
pub record IsLeastWalk (graph : MoveGraph) (starts goals : List ℕ) (w : Walk) : Type 0 where
  pub walk : IsWalk graph starts goals w
  pub least : NoneCostsLess graph starts goals w.price
  pub small : w.price < 2 ^ 60

-- no walk leads from a start to a goal
abbrev pub NoneLeads : MoveGraph → List ℕ → List ℕ → Type 0
NoneLeads graph starts goals =
    (s : ℕ) (hs : List Hop) (g : ℕ) → Contains starts s → Contains goals g → Leads graph s hs g → ⊥

-- the nodes are, in ascending order, exactly those that open moves reach from the starts
pub record IsReach (graph : MoveGraph) (starts nodes : List ℕ) : Type 0 where
  pub ascends : IsStrictlyIncreasing nodes
  pub reached : (node : ℕ) → Contains nodes node → Reaches graph starts node
  pub complete : (node : ℕ) → Reaches graph starts node → Contains nodes node

-- a least walk, or none and all that is reached
abbrev pub Answers : MoveGraph → List ℕ → List ℕ → Found → Type 0
Answers graph starts goals (Found.Walk w) = IsLeastWalk graph starts goals w
Answers graph starts goals (Found.Closed r) = NoneLeads graph starts goals × IsReach graph starts r.nodes
