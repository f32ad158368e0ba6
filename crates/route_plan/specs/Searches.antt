-- What the search from an island stands on.
use Rattle.std.specs.Prelude.{ℕ, ◌≤◌, ◌^◌, List, Option, IfSome}
use Rattle.pcb_model.specs.declared.design.Design.{Design}
use Rattle.pcb_islands.specs.declared.net.Island.{Island}
use Rattle.route_lattice.specs.Mesh.{Mesh}
use Rattle.route_lattice.specs.Legal.{CanMove}
use Rattle.route_lattice.specs.Ground.{GroundOf}

-- what it is: its ground, the island and the others, the price of a via, and a penalty
pub record NetSearchOf : Type 0 where
  pub on : GroundOf
  pub island : Island
  pub others : List Island
  pub via_cost : ℕ
  pub penalty : Option ℕ

-- what walks of a net ask: a sound design, a lattice of it, one of its nets, and small prices
pub record CanWalk (d : Design) (m : Mesh) (net via_cost : ℕ) (penalty : Option ℕ) : Type 0 where
  pub move : CanMove d m net via_cost
  pub small_penalty : IfSome penalty (λ p. p ≤ 2 ^ 30)
