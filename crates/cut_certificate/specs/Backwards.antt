-- Moves turned round.
use Rattle.std.specs.Prelude.{◌≡◌, ℕ, ◌<◌, Option, Some, None}
use Rattle.route_lattice.specs.declared.moves.Move.{Move}
use Rattle.route_lattice.specs.Walks.{MoveGraph, Hop, Opens}

-- an open move leads from one node to another
pub record LedBy (graph : MoveGraph) (from to : ℕ) : Type 0 where
  pub hop : Hop
  pub opens : Opens graph from hop
  pub to_is : hop.to ≡ to

-- an open move leads from where a move leads to the node
abbrev pub LedBack : MoveGraph → ℕ → Option (Move × ℕ) → Type 0
LedBack graph node None = ⊥
LedBack graph node (Some w) = LedBy graph w.1 node

-- at each node the same moves, each of which is open where an open move leads back, at no price
abbrev pub backwards : MoveGraph → MoveGraph
backwards graph = record {
  count = graph.count;
  arity = graph.arity;
  at = graph.at;
  open_at = λ node i. LedBack graph node (graph.at node i);
  priced = λ node i price. price ≡ 0;
}

-- some move of the node leads to the other one
pub record HasMoveTo (graph : MoveGraph) (node to : ℕ) : Type 0 where
  pub index : ℕ
  pub move : Move
  pub listed : index < graph.arity
  pub leads : graph.at node index ≡ Some (move, to)

-- where a move leads, one leads back, which needn't be open
abbrev pub IsMutual : MoveGraph → Type 0
IsMutual graph = (node i : ℕ) (m : Move) (to : ℕ) → node < graph.count → i < graph.arity
    → graph.at node i ≡ Some (m, to) → HasMoveTo graph to node
