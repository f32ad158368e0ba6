-- What the nodes that are reached tell of goals.
use Rattle.std.specs.Prelude.{ℕ, List, Contains}
use Rattle.route_lattice.specs.declared.moves.Walk.{Walk}
use Rattle.route_lattice.specs.Walks.{MoveGraph, IsWalk, NoneLeads}

-- one of the nodes is a goal
pub record Meets (nodes goals : List ℕ) : Type 0 where
  pub node : ℕ
  pub there : Contains nodes node
  pub goal : Contains goals node

-- a walk leads to a goal where one of the nodes is one, and none does where none of them is
pub record Tells (graph : MoveGraph) (starts goals nodes : List ℕ) : Type 0 where
  pub met : Meets nodes goals → (w : Walk) × IsWalk graph starts goals w
  pub missed : (Meets nodes goals → ⊥) → NoneLeads graph starts goals
