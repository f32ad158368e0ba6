-- A group of nets on a lattice, as the private functions are given it.
use Rattle.std.specs.Prelude.{◌≡◌, ℕ, ◌*◌, ◌≤◌, ◌^◌, List, length}
use Rattle.pcb_model.specs.declared.design.Design.{Design}
use Rattle.pcb_model.specs.Bounds.{HasRulesWithin}
use Rattle.route_lattice.specs.Mesh.{Mesh, node_count}
use Rattle.route_lattice.specs.Ways.{way_count}
use Rattle.route_lattice.specs.Legal.{CanMove}

-- what a group is to a caller: a design, a lattice of it, and the group's first net
pub record GroupOf : Type 0 where
  pub d : Design
  pub lat : Mesh
  pub first : ℕ

abbrev pub group_of : Design → Mesh → ℕ → GroupOf
group_of d lat first = record { d = d; lat = lat; first = first }

-- a sound design, a lattice of it, and a net of it; the number of the net's moves at a node; a distance that no
-- clearance is above
pub record IsGroup (s : GroupOf) (arity reach : ℕ) : Type 0 where
  pub can_move : CanMove s.d s.lat s.first 0
  pub arity_is : arity ≡ way_count s.d s.lat s.first
  pub rules : HasRulesWithin reach s.d
  pub small : reach ≤ 2 ^ 28

-- the table has a count for each of the group's moves
abbrev pub IsTable : GroupOf → List ℕ → Type 0
IsTable s counts = length counts ≡ node_count s.lat * way_count s.d s.lat s.first
