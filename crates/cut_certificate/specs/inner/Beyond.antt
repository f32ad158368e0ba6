-- Moves to nodes beyond some others.
use Rattle.std.specs.Prelude.{ℕ, List, Contains}
use Rattle.route_lattice.specs.Walks.{MoveGraph, Hop, Opens}
use Rattle.cut_certificate.specs.declared.cut.Block.{Block}
use Rattle.cut_certificate.specs.Border.{LeadsOut}
use Rattle.cut_certificate.specs.Past.{IsBlockBy}

-- the same moves, of which those are open that are so there and don't lead to one of the nodes
abbrev pub beyond : MoveGraph → List ℕ → MoveGraph
beyond graph nodes = record {
  count = graph.count;
  arity = graph.arity;
  at = graph.at;
  open_at = λ node i. LeadsOut graph.at nodes node i × graph.open_at node i;
  priced = graph.priced;
}

-- where the block is one by the item and its move is open, the move ends at one of the nodes
abbrev pub EndsAmong : MoveGraph → ℕ → List ℕ → Block → Type 0
EndsAmong graph id ends b = (node : ℕ) (hop : Hop) → IsBlockBy id node hop.index b → Opens graph node hop
    → Contains ends hop.to
