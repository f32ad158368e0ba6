-- Sets of nodes that shut an island in.
use Rattle.std.specs.Prelude.{ℕ, ◌<◌, List, All, Contains}
use Rattle.std.specs.List.Sorted.{IsStrictlyIncreasing}
use Rattle.pcb_model.specs.declared.item.Item.{Item}
use Rattle.pcb_model.specs.declared.design.Design.{Design}
use Rattle.pcb_islands.specs.declared.net.Island.{Island}
use Rattle.route_lattice.specs.Mesh.{Mesh, node_count}
use Rattle.route_lattice.specs.Ways.{way, way_count}
use Rattle.route_lattice.specs.Legal.{IsOpen, probe_at}
use Rattle.cut_certificate.specs.Border.{LeadsOut}
use Rattle.cut_certificate.specs.Cuts.{IsStart, IsGoal}

-- the move of the net is there and what it lays is legal
abbrev pub IsOpenWay : Design → Mesh → List Item → ℕ → ℕ → ℕ → Type 0
IsOpenWay d m items net node i = IsOpen d items net (probe_at d m net node i)

-- no legal move of the net leads out of the nodes
pub record NoneLeadsOut (d : Design) (m : Mesh) (items : List Item) (net : ℕ) (nodes : List ℕ) : Type 0 where
  pub each : (node index : ℕ) → Contains nodes node → index < way_count d m net
      → LeadsOut (way d m net) nodes node index → IsOpenWay d m items net node index → ⊥

-- the nodes hold each legal anchor of the island, hold no anchor of another one, and no legal move leaves them
pub record IsCutSet (d : Design) (m : Mesh) (items : List Item) (island : Island) (others : List Island)
    (nodes : List ℕ) : Type 0 where
  pub ascends : IsStrictlyIncreasing nodes
  pub there : All (λ v. v < node_count m) nodes
  pub starts_in : (node : ℕ) → IsStart d m items island node → Contains nodes node
  pub goals_out : (node : ℕ) → IsGoal d m items others node → Contains nodes node → ⊥
  pub closed : NoneLeadsOut d m items island.net nodes
