-- The moves of stubs as a graph with a node more, which is the last: they are those of the net, and behind them one
-- move to that node, from each node with a legal via that touches a rib.
use Rattle.std.specs.Prelude.{◌≡◌, ℕ, ◌+◌, ◌<◌, ◌≤◌, nat_lt, if◌then◌else◌, Option, Some, None}
use Rattle.route_lattice.specs.declared.moves.Move.{Move}
use Rattle.route_lattice.specs.declared.moves.Move.TheVariants.{Step}
use Rattle.route_lattice.specs.Legal.{IsOpen, probe_at, way_price}
use Rattle.route_lattice.specs.Mesh.{node_count}
use Rattle.route_lattice.specs.Walks.{MoveGraph}
use Rattle.route_lattice.specs.Ways.{way, way_count}
use Rattle.plane_joins.specs.Stubs.{RibGround, Touches}

-- the move of the node is a legal via, and touches a rib
pub record EndsBy (g : RibGround) (net node i : ℕ) : Type 0 where
  pub from_vias : 4 ≤ i
  pub listed : i < way_count g.d g.lat net
  pub legal : IsOpen g.d g.items net (probe_at g.d g.lat net node i)
  pub touches : Touches g net (probe_at g.d g.lat net node i)

-- the node has such a move, which leads to another
pub record IsEnd (g : RibGround) (net node : ℕ) (mv : Move) (to : ℕ) : Type 0 where
  pub index : ℕ
  pub ends : EndsBy g net node index
  pub leads : way g.d g.lat net node index ≡ Some (mv, to)

pub record CanEnd (g : RibGround) (net node : ℕ) : Type 0 where
  pub index : ℕ
  pub ends : EndsBy g net node index

-- what stands for it in a walk to the last node
abbrev pub to_last : RibGround → Move × ℕ
to_last g = (Step 0, node_count g.lat)

abbrev pub stub_way : RibGround → ℕ → ℕ → ℕ → Option (Move × ℕ)
stub_way g net node i =
    if nat_lt node (node_count g.lat) then
    (if nat_lt i (way_count g.d g.lat net) then way g.d g.lat net node i else Some (to_last g)) else None

pub record OpensStub (g : RibGround) (net node i : ℕ) : Type 0 where
  pub within : node < node_count g.lat
  pub legal : i < way_count g.d g.lat net → IsOpen g.d g.items net (probe_at g.d g.lat net node i)
  pub ends : way_count g.d g.lat net ≤ i → CanEnd g net node

abbrev pub stub_price : RibGround → ℕ → ℕ → ℕ → ℕ
stub_price g net node i =
    if nat_lt node (node_count g.lat) then
    (if nat_lt i (way_count g.d g.lat net) then way_price g.lat g.via_cost node (way g.d g.lat net node i)
    else g.via_cost) else 0

abbrev pub stub_graph : RibGround → ℕ → MoveGraph
stub_graph g net = record {
  count = node_count g.lat + 1;
  arity = way_count g.d g.lat net + 1;
  at = stub_way g net;
  open_at = OpensStub g net;
  priced = λ node i price. price ≡ stub_price g net node i;
}
