-- What leads on from the nodes of a cut past an item that isn't there any more.
use Rattle.std.specs.Prelude.{◌≡◌, ◌⊎◌, ℕ, ◌<◌, Contains, All, Any}
use Rattle.std.specs.List.Sorted.{IsStrictlyIncreasing}
use Rattle.route_lattice.specs.Walks.{MoveGraph, Hop, Opens}
use Rattle.cut_certificate.specs.declared.cut.Block.{Block}
use Rattle.cut_certificate.specs.declared.cut.Blocker.TheVariants as blocker
use Rattle.cut_certificate.specs.declared.cut.Cut.{Cut}
use Rattle.cut_certificate.specs.Border.{IsOf}

-- the block is that of the move, which the item with the id shuts
pub record IsBlockBy (id node index : ℕ) (b : Block) : Type 0 where
  pub of : IsOf node index b
  pub by_is : b.by ≡ blocker.Item id

-- the block is of a move of the graph
pub record IsMoveIn (graph : MoveGraph) (b : Block) : Type 0 where
  pub node_there : b.node < graph.count
  pub index_there : b.index < graph.arity

-- Of the moves that lead out of the cut only those may be open that the item with the id shut.
pub record IsCutPast (graph : MoveGraph) (cut : Cut) (id : ℕ) : Type 0 where
  pub ascends : IsStrictlyIncreasing cut.reach.nodes
  pub there : All (IsMoveIn graph) cut.blocked
  pub leads : (node : ℕ) (hop : Hop) → Contains cut.reach.nodes node → Opens graph node hop
      → Contains cut.reach.nodes hop.to ⊎ Any (IsBlockBy id node hop.index) cut.blocked
