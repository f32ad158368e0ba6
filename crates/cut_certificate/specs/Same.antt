-- Moves that are the same.
use Rattle.std.specs.Prelude.{◌≡◌, ◌↔◌, ℕ}
use Rattle.route_lattice.specs.Walks.{MoveGraph}

-- the same number of nodes, and at each the same moves, open in the same cases, at the same prices
pub record SameMoves (a b : MoveGraph) : Type 0 where
  pub count : a.count ≡ b.count
  pub arity : a.arity ≡ b.arity
  pub leads : (node i : ℕ) → a.at node i ≡ b.at node i
  pub opens : (node i : ℕ) → a.open_at node i ↔ b.open_at node i
  pub costs : (node i price : ℕ) → a.priced node i price ↔ b.priced node i price
