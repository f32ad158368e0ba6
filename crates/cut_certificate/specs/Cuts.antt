-- Cuts: sets of nodes that hold the anchors of an island and that no legal move leaves.
use Rattle.std.specs.Prelude.{◌≡◌, ◌↔◌, ℕ, ◌<◌, ◌==◌, not, List, Option, Some, None, Contains, All, Any, filter}
use Rattle.std.specs.Prelude.{slice_get, slice_index}
use Rattle.std.specs.Option.{IsSomeAnd}
use Rattle.std.specs.List.{list_any}
use Rattle.std.specs.List.Sorted.{IsStrictlyIncreasing}
use Rattle.pcb_model.specs.declared.item.Item.{Item}
use Rattle.pcb_model.specs.declared.item.Probe.{Probe}
use Rattle.pcb_model.specs.declared.design.Design.{Design}
use Rattle.pcb_model.specs.Pieces.{pieces_of, metal_of}
use Rattle.pcb_model.specs.Pairs.{ProbeAgrees}
use Rattle.pcb_model.specs.Board.{AreInside}
use Rattle.pcb_model.specs.Copper.{Finds}
use Rattle.pcb_islands.specs.declared.net.Island.{Island}
use Rattle.pcb_islands.specs.Islands.{AreIslands}
use Rattle.route_lattice.specs.Mesh.{Mesh, node_count}
use Rattle.route_lattice.specs.Ways.{way, way_count}
use Rattle.route_lattice.specs.Walks.{Hop, Leads, IsReach}
use Rattle.route_lattice.specs.Anchors.{AnchorsAmong}
use Rattle.route_lattice.specs.Legal.{IsLegalNode, probe_at, legal_graph}
use Rattle.cut_certificate.specs.declared.cut.Blocker.{Blocker}
use Rattle.cut_certificate.specs.declared.cut.Blocker.TheVariants as blocker
use Rattle.cut_certificate.specs.declared.cut.Cut.{Cut}
use Rattle.cut_certificate.specs.Border.{AreBlocks}

-- ---- walks from an island
-- the node anchors an item of the island, and its disc is legal
pub record IsStart (d : Design) (m : Mesh) (items : List Item) (island : Island) (node : ℕ) : Type 0 where
  pub there : node < node_count m
  pub anchors : AnchorsAmong d m items island.items node
  pub legal : IsLegalNode d m items island.net node

-- the node anchors an item of one of the islands
pub record IsGoal (d : Design) (m : Mesh) (items : List Item) (others : List Island) (node : ℕ) : Type 0 where
  pub there : node < node_count m
  pub anchors : Any (λ (o : Island). AnchorsAmong d m items o.items node) others

-- legal moves lead from the island to one of the others
pub record LeadsOn (d : Design) (m : Mesh) (items : List Item) (via_cost : ℕ) (island : Island)
    (others : List Island) : Type 0 where
  pub from : ℕ
  pub hops : List Hop
  pub to : ℕ
  pub starts : IsStart d m items island from
  pub ends : IsGoal d m items others to
  pub leads : Leads (legal_graph d m items island.net via_cost) from hops to

-- the nodes are all that legal moves reach from the island
pub record IsReached (d : Design) (m : Mesh) (items : List Item) (via_cost : ℕ) (island : Island)
    (nodes : List ℕ) : Type 0 where
  pub starts : List ℕ
  pub starts_are : (node : ℕ) → Contains starts node ↔ IsStart d m items island node
  pub reach : IsReach (legal_graph d m items island.net via_cost) starts nodes

-- ---- what shuts a move
-- the least id of an item that disagrees with what the probe of the net stands for; or all agree, and it isn't inside
abbrev pub ShutsProbe : Design → List Item → ℕ → Probe → Blocker → Type 0
ShutsProbe d items net p (blocker.Item id) =
    Finds (λ b. ProbeAgrees d net p b → ⊥) (ProbeAgrees d net p) 0 None items (Some id)
ShutsProbe d items net p blocker.Outside =
    ((b : Item) → Contains items b → ProbeAgrees d net p b) × ¬ (AreInside d.bounds (pieces_of d (metal_of p)))

-- it shuts move i of a node
abbrev pub IsShutBy : Design → Mesh → List Item → ℕ → ℕ → ℕ → Blocker → Type 0
IsShutBy d m items net node i by = IsSomeAnd (probe_at d m net node i) (λ p. ShutsProbe d items net p by)

-- ---- cuts
-- the nodes of a cut hold each start of the island and no goal, and all moves that lead out are listed with what shuts
-- them
pub record IsCut (d : Design) (m : Mesh) (items : List Item) (island : Island) (others : List Island) (cut : Cut) : Type
    0 where
  pub net_is : cut.net ≡ island.net
  pub pin_is : slice_get island.pins 0 ≡ Some cut.pin
  pub ascends : IsStrictlyIncreasing cut.reach.nodes
  pub there : All (λ v. v < node_count m) cut.reach.nodes
  pub starts_in : (node : ℕ) → IsStart d m items island node → Contains cut.reach.nodes node
  pub goals_out : (node : ℕ) → IsGoal d m items others node → Contains cut.reach.nodes node → ⊥
  pub blocks : AreBlocks (way d m island.net) (way_count d m island.net) (IsShutBy d m items island.net) cut.reach.nodes
      cut.blocked

-- none where legal moves lead on; else a cut whose nodes are all that legal moves reach
abbrev pub Cuts : Design → Mesh → List Item → ℕ → Island → List Island → Option Cut → Type 0
Cuts d m items via_cost island others None = LeadsOn d m items via_cost island others
Cuts d m items via_cost island others (Some cut) =
    IsCut d m items island others cut × IsReached d m items via_cost island cut.reach.nodes

-- those that don't have the first pin of the island
abbrev pub others_of : Island → List Island → List Island
others_of island found = filter (λ (s : Island). not (list_any (λ pin. pin == slice_index island.pins 0) s.pins)) found

-- the same for the other islands of the net
pub record CutsOff (d : Design) (m : Mesh) (items : List Item) (via_cost : ℕ) (island : Island)
    (cut : Option Cut) : Type 0 where
  pub found : List Island
  pub found_are : AreIslands d items island.net found
  pub cuts : Cuts d m items via_cost island (others_of island found) cut

-- ---- nodes of walks
-- the nodes are those at which a walk from the island may start, and end
pub record AreStarts (d : Design) (m : Mesh) (items : List Item) (island : Island) (nodes : List ℕ) : Type 0 where
  pub exact : (node : ℕ) → Contains nodes node ↔ IsStart d m items island node

pub record AreGoals (d : Design) (m : Mesh) (items : List Item) (others : List Island) (nodes : List ℕ) : Type 0 where
  pub exact : (node : ℕ) → Contains nodes node ↔ IsGoal d m items others node
