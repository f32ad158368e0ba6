-- Steps of the check and of the listing of the moves that lead out of a set of nodes.
use Rattle.std.specs.Prelude.{◌≡◌, ℕ, ◌<◌, List, Option, Some, None, Contains, All, ◌⊎◌}
use Rattle.route_lattice.specs.declared.moves.Move.{Move}
use Rattle.route_lattice.specs.declared.moves.Walk.{Walk}
use Rattle.route_lattice.specs.Walks.{MoveGraph, IsWalk, NoneLeads, IsReach}
use Rattle.cut_certificate.specs.declared.cut.Blocker.{Blocker}
use Rattle.cut_certificate.specs.declared.cut.Block.{Block}
use Rattle.cut_certificate.specs.declared.border.Border.{Border}
use Rattle.cut_certificate.specs.Goals.{Meets}
use Rattle.cut_certificate.specs.Border.{LeadsOut, AreInOrder, IsListed, IsBlock, AreBlocks}

-- each move of the node that leads out is listed
abbrev pub AllListed : (ℕ → ℕ → Option (Move × ℕ)) → ℕ → List ℕ → List Block → ℕ → Type 0
AllListed at arity nodes blocked node =
    (index : ℕ) → index < arity → LeadsOut at nodes node index → IsListed blocked node index

-- the blocks are, in order, of moves of earlier nodes that lead out, and name what shuts each
pub record AreEarlier (at : ℕ → ℕ → Option (Move × ℕ)) (arity : ℕ) (ShutBy : ℕ → ℕ → Blocker → Type 0) (nodes : List ℕ)
    (node : ℕ) (blocked : List Block) : Type 0 where
  pub in_order : AreInOrder blocked
  pub earlier : All (λ b. b.node < node) blocked
  pub only : All (IsBlock at arity ShutBy nodes) blocked

-- the block is of an earlier node, or of an index below i of the node
abbrev pub IsEarlier : ℕ → ℕ → Block → Type 0
IsEarlier node i b = (b.node < node) ⊎ ((b.node ≡ node) × (b.index < i))

-- the blocks of old and those of the moves below i of the node that lead out, in order
pub record Extends (at : ℕ → ℕ → Option (Move × ℕ)) (arity : ℕ) (ShutBy : ℕ → ℕ → Blocker → Type 0) (nodes : List ℕ)
    (node i : ℕ) (old new : List Block) : Type 0 where
  pub kept : (v index : ℕ) → IsListed old v index → IsListed new v index
  pub in_order : AreInOrder new
  pub earlier : All (IsEarlier node i) new
  pub only : All (IsBlock at arity ShutBy nodes) new
  pub listed : (index : ℕ) → index < i → LeadsOut at nodes node index → IsListed new node index

-- no open move leads out of the nodes
pub record IsClosed (at : ℕ → ℕ → Option (Move × ℕ)) (arity : ℕ) (IsOpen : ℕ → ℕ → Type 0) (nodes : List ℕ) : Type 0
  where
    pub each : (node index : ℕ) → Contains nodes node → index < arity → LeadsOut at nodes node index → IsOpen node index
        → ⊥

-- a goal among the nodes; or none, the nodes, and the moves that lead out of them
abbrev pub IsBorder : (graph : MoveGraph) → (ℕ → ℕ → Blocker → Type 0) → List ℕ → List ℕ → Option Border → Type 0
IsBorder graph ShutBy nodes goals None = Meets nodes goals
IsBorder graph ShutBy nodes goals (Some b) = (Meets nodes goals → ⊥) × (b.reach.nodes ≡ nodes)
    × AreBlocks graph.at graph.arity ShutBy nodes b.blocked

-- a walk from a start to a goal; or none, all nodes that are reached, and the moves that lead out of them
abbrev pub Closes : (graph : MoveGraph) → (ℕ → ℕ → Blocker → Type 0) → List ℕ → List ℕ → Option Border → Type 0
Closes graph ShutBy starts goals None = (w : Walk) × IsWalk graph starts goals w
Closes graph ShutBy starts goals (Some b) = NoneLeads graph starts goals × IsReach graph starts b.reach.nodes
    × AreBlocks graph.at graph.arity ShutBy b.reach.nodes b.blocked
