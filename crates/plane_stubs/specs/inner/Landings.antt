-- Which moves of nodes touch a rib, as a table.
use Rattle.std.specs.Prelude.{◌≡◌, ◌↔◌, ℕ, ◌+◌, ◌-◌, ◌<◌, ◌≤◌, Bool, IsTrue, List, [], ◌∷◌, ◌++◌, length, Some}
use Rattle.std.specs.Prelude.{slice_get}
use Rattle.std.specs.Prelude.{◌^◌}
use Rattle.geo_kernel.specs.Plane.{IsWithin}
use Rattle.pcb_model.specs.declared.item.Probe.{Probe}
use Rattle.pcb_model.specs.declared.item.Probe.TheVariants as probe
use Rattle.route_lattice.specs.declared.moves.Move.{Move}
use Rattle.route_lattice.specs.declared.moves.Walk.{Walk}
use Rattle.route_lattice.specs.Legal.{CanMove, probe_at}
use Rattle.route_lattice.specs.Mesh.{node_count}
use Rattle.route_lattice.specs.Walks.{IsLeastWalk}
use Rattle.route_lattice.specs.Ways.{way_count}
use Rattle.plane_joins.specs.Stubs.{RibGround, Touches}
use Rattle.plane_joins.specs.inner.Graph.{CanEnd, IsEnd, stub_graph}

-- a net on the copper in which its stubs are sought
pub record NetRibs : Type 0 where
  pub on : RibGround
  pub net : ℕ

-- a via at a point within 2^29
abbrev pub IsNearVia : Probe → Type 0
IsNearVia (probe.Via padstack at) = IsWithin (2 ^ 29) at
IsNearVia (probe.Disc layer width at) = ⊥
IsNearVia (probe.Step layer width a b) = ⊥

-- whether what move i of a node lays touches a rib, node by node
pub record IsLandingRow (g : RibGround) (net i : ℕ) (row : List Bool) : Type 0 where
  pub count : length row ≡ node_count g.lat
  pub each : (v : ℕ) (b : Bool) → slice_get row v ≡ Some b → IsTrue b ↔ Touches g net (probe_at g.d g.lat net v i)

-- so it is with each via move
pub record AreLandings (g : RibGround) (net : ℕ) (rows : List (List Bool)) : Type 0 where
  pub count : length rows + 4 ≡ way_count g.d g.lat net
  pub each : (k : ℕ) (row : List Bool) → slice_get rows k ≡ Some row → IsLandingRow g net (4 + k) row

-- the walk's last move leaves a node of the lattice that has a legal via that touches a rib
pub record EndsAtLanding (g : RibGround) (net : ℕ) (w : Walk) : Type 0 where
  pub node : ℕ
  pub at_end : slice_get w.nodes (length w.moves - 1) ≡ Some node
  pub some : 1 ≤ length w.moves
  pub more : length w.nodes ≡ length w.moves + 1
  pub there : node < node_count g.lat
  pub can : CanEnd g net node

-- v is w, but that its last move is a legal via that touches a rib, and leads where that via does
pub record LandsAs (g : RibGround) (net : ℕ) (w v : Walk) : Type 0 where
  pub node : ℕ
  pub mv : Move
  pub to : ℕ
  pub at_end : slice_get w.nodes (length w.moves - 1) ≡ Some node
  pub ends : IsEnd g net node mv to
  pub front : List ℕ
  pub end : ℕ
  pub nodes_were : w.nodes ≡ front ++ end ∷ []
  pub nodes_are : v.nodes ≡ front ++ to ∷ []
  pub before : List Move
  pub last : Move
  pub moves_were : w.moves ≡ before ++ last ∷ []
  pub moves_are : v.moves ≡ before ++ mv ∷ []
  pub price : v.price ≡ w.price

-- a least walk to the last node of the graph, with a via that touches a rib in place of its last move
pub record LandsLeast (g : RibGround) (net : ℕ) (starts : List ℕ) (v : Walk) : Type 0 where
  pub walk : Walk
  pub least : IsLeastWalk (stub_graph g net) starts (node_count g.lat ∷ []) walk
  pub lands : LandsAs g net walk v
