-- The moves that lead out of a set of nodes.
use Rattle.std.specs.Prelude.{◌≡◌, ℕ, ◌<◌, List, Option, Some, Contains, All, AllPairs, Any, ◌⊎◌}
use Rattle.route_lattice.specs.declared.moves.Move.{Move}
use Rattle.cut_certificate.specs.declared.cut.Blocker.{Blocker}
use Rattle.cut_certificate.specs.declared.cut.Block.{Block}

-- the move of that index at a node leads to a node that isn't among the nodes
pub record LeadsOut (at : ℕ → ℕ → Option (Move × ℕ)) (nodes : List ℕ) (node index : ℕ) : Type 0 where
  pub move : Move
  pub to : ℕ
  pub leads : at node index ≡ Some (move, to)
  pub outside : Contains nodes to → ⊥

-- first by node, then by index
abbrev pub IsBefore : Block → Block → Type 0
IsBefore a b = (a.node < b.node) ⊎ ((a.node ≡ b.node) × (a.index < b.index))

-- each is before all later ones
abbrev pub AreInOrder : List Block → Type 0
AreInOrder blocked = AllPairs IsBefore blocked

-- the block is that of the move
abbrev pub IsOf : ℕ → ℕ → Block → Type 0
IsOf node index b = (b.node ≡ node) × (b.index ≡ index)

abbrev pub IsListed : List Block → ℕ → ℕ → Type 0
IsListed blocked node index = Any (IsOf node index) blocked

-- the block is of a move of the nodes that leads out, and names what shuts it
pub record IsBlock (at : ℕ → ℕ → Option (Move × ℕ)) (arity : ℕ) (ShutBy : ℕ → ℕ → Blocker → Type 0) (nodes : List ℕ)
    (b : Block) : Type 0 where
  pub node_in : Contains nodes b.node
  pub in_range : b.index < arity
  pub leads_out : LeadsOut at nodes b.node b.index
  pub shut : ShutBy b.node b.index b.by

-- the blocks are, in order, exactly the moves of the nodes that lead out, each with what shuts it
pub record AreBlocks (at : ℕ → ℕ → Option (Move × ℕ)) (arity : ℕ) (ShutBy : ℕ → ℕ → Blocker → Type 0) (nodes : List ℕ)
    (blocked : List Block) : Type 0 where
  pub in_order : AreInOrder blocked
  pub only : All (IsBlock at arity ShutBy nodes) blocked
  pub complete : (node index : ℕ) → Contains nodes node → index < arity → LeadsOut at nodes node index
      → IsListed blocked node index
