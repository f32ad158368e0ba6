-- Whether the nodes of some stretches shut an island in, how many they are, and how many moves lead out of them.
use Rattle.std.specs.Prelude.{◌≡◌, ◌≤◌, ◌^◌, ℕ, List, Option, Some, length, MatchOption, remove, slice_get}
use Rattle.pcb_model.specs.declared.item.Item.{Item}
use Rattle.pcb_model.specs.declared.design.Design.{Design}
use Rattle.pcb_islands.specs.declared.net.Island.{Island}
use Rattle.route_lattice.specs.Mesh.{Mesh}
use Rattle.route_lattice.specs.Ways.{way, way_count}
use Rattle.route_lattice.specs.Anchors.{AreAnchorsAmong}
use Rattle.cut_certificate.specs.declared.cut.Block.{Block}
use Rattle.cut_certificate.specs.declared.cut.Blocker.{Blocker}
use Rattle.cut_certificate.specs.Border.{AreBlocks}
use Rattle.copper_alike.specs.Sets.{IsCutSet}
use Rattle.cut_check.specs.declared.stretch.Stretch.{Stretch}
use Rattle.cut_check.specs.declared.cut.CutSize.{CutSize}
use Rattle.cut_check.specs.Stretches.{AreNodesOf}

-- so many moves of the net lead out of the nodes
pub record IsOutCount (d : Design) (m : Mesh) (net : ℕ) (nodes : List ℕ) (count : ℕ) : Type 0 where
  pub moves : List Block
  pub all : AreBlocks (way d m net) (way_count d m net) (λ (v i : ℕ) (by : Blocker). Unit {0}) nodes moves
  pub count_is : length moves ≡ count

-- of each island the nodes that anchor its items
pub record AreAnchored (d : Design) (m : Mesh) (items : List Item) (own : List Island)
    (anchors : List (List ℕ)) : Type 0 where
  pub all : length anchors ≡ length own
  pub each : (k : ℕ) (island : Island) (nodes : List ℕ) → slice_get own k ≡ Some island
      → slice_get anchors k ≡ Some nodes → AreAnchorsAmong d m items island.items nodes

-- the nodes of the stretches shut the island in, and this is how many they are, and how many moves lead out of them
pub record IsShutIn (d : Design) (m : Mesh) (items : List Item) (island : Island) (others : List Island)
    (runs : List Stretch) (size : CutSize) : Type 0 where
  pub nodes : List ℕ
  pub nodes_are : AreNodesOf m runs nodes
  pub set : IsCutSet d m items island others nodes
  pub reached : size.reached ≡ length nodes
  pub blocked : IsOutCount d m island.net nodes size.blocked
  pub few : size.blocked ≤ 2 ^ 57

-- the stretches don't lie on the lattice, or their nodes don't shut the island in
pub record IsLetOut (d : Design) (m : Mesh) (items : List Item) (island : Island) (others : List Island)
    (runs : List Stretch) : Type 0 where
  pub none : (nodes : List ℕ) → AreNodesOf m runs nodes → IsCutSet d m items island others nodes → ⊥

-- for the island at a place among those of its net
pub record IsSized (d : Design) (m : Mesh) (items : List Item) (own : List Island) (k : ℕ) (runs : List Stretch)
    (size : Option CutSize) : Type 0 where
  pub at : (island : Island) → slice_get own k ≡ Some island → MatchOption size
      (IsLetOut d m items island (remove own k) runs) (IsShutIn d m items island (remove own k) runs)
