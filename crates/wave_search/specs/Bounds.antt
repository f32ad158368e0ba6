-- A bound from below on the price of what is left of a walk.
use Rattle.std.specs.Prelude.{◌≡◌, ℕ, ◌+◌, ◌^◌, ◌≤◌, ◌<◌, List, Contains}
use Rattle.route_lattice.specs.Walks.{MoveGraph, Hop, Opens}

-- low is at most 2^60, is 0 at goals, and falls along an open move by at most its price
pub record IsBound (graph : MoveGraph) (goals : List ℕ) (low : ℕ → ℕ) : Type 0 where
  pub limit : (node : ℕ) → node < graph.count → low node ≤ 2 ^ 60
  pub at_goals : (goal : ℕ) → Contains goals goal → low goal ≡ 0
  pub falls : (node : ℕ) (hop : Hop) → node < graph.count → Opens graph node hop → low node ≤ hop.price + low hop.to
