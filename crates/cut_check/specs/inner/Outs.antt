-- The moves that lead out of a set of nodes, and what the set holds.
use Rattle.std.specs.Prelude.{◌≡◌, ◌≢◌, ◌≤◌, ◌<◌, ◌+◌, ◌*◌, ◌^◌, ℕ, List, All, Contains, length, take, get_or, min}
use Rattle.std.specs.Prelude.{slice_get, Some}
use Rattle.pcb_model.specs.declared.item.Item.{Item}
use Rattle.pcb_model.specs.declared.design.Design.{Design}
use Rattle.pcb_islands.specs.declared.net.Island.{Island}
use Rattle.route_lattice.specs.Mesh.{Mesh}
use Rattle.route_lattice.specs.Anchors.{AreAnchorsAmong}
use Rattle.route_lattice.specs.Legal.{IsLegalNode}
use Rattle.route_lattice.specs.Walks.{MoveGraph}
use Rattle.cut_certificate.specs.declared.cut.Blocker.{Blocker}
use Rattle.cut_certificate.specs.declared.cut.Block.{Block}
use Rattle.cut_certificate.specs.Border.{LeadsOut, AreInOrder, IsBlock, AreBlocks}
use Rattle.cut_certificate.specs.inner.Listing.{AllListed, Extends}
use Rattle.copper_alike.specs.Sets.{IsCutSet}
use Rattle.cut_check.specs.declared.cut.CutSize.{CutSize}
use Rattle.cut_check.specs.Sizes.{IsOutCount}

-- what marked nodes of moves are to a caller
pub record MarkedOf (M : Type 0) : Type 0 where
  pub moves : M
  pub nodes : List ℕ

-- whatever shuts it
abbrev pub AnyBy : ℕ → ℕ → Blocker → Type 0
AnyBy v i by = Unit {0}

-- an open move of the node leads out of the nodes
pub record Escapes (graph : MoveGraph) (nodes : List ℕ) (node : ℕ) : Type 0 where
  pub index : ℕ
  pub below : index < graph.arity
  pub leads_out : LeadsOut graph.at nodes node index
  pub is_open : graph.open_at node index

-- no open move of the node, of an index below i, leads out
pub record StaysBelow (graph : MoveGraph) (nodes : List ℕ) (node i : ℕ) : Type 0 where
  pub none : (index : ℕ) → index < i → LeadsOut graph.at nodes node index → graph.open_at node index → ⊥

-- behind the blocks of earlier nodes there are so many of the moves of the node, of an index below i, that lead out
pub record Added (graph : MoveGraph) (nodes : List ℕ) (node i count : ℕ) (old : List Block) : Type 0 where
  pub new : List Block
  pub extends : Extends graph.at graph.arity AnyBy nodes node i old new
  pub more : length new ≡ length old + count

pub record AddsOuts (graph : MoveGraph) (nodes : List ℕ) (node i count : ℕ) : Type 0 where
  pub stays : StaysBelow graph nodes node i
  pub adds : (old : List Block) → AreInOrder old → All (λ b. b.node < node) old
      → All (IsBlock graph.at graph.arity AnyBy nodes) old → Added graph nodes node i count old

-- so many moves lead out of the nodes, none of them open
pub record AreOuts (graph : MoveGraph) (nodes : List ℕ) (count : ℕ) : Type 0 where
  pub stays : (node : ℕ) → Contains nodes node → StaysBelow graph nodes node graph.arity
  pub blocks : List Block
  pub are : AreBlocks graph.at graph.arity AnyBy nodes blocks
  pub count_is : length blocks ≡ count
  pub few : count ≤ 2 ^ 57

-- of the first k nodes
pub record AreOutsSoFar (graph : MoveGraph) (nodes : List ℕ) (k count : ℕ) : Type 0 where
  pub stays : (j d : ℕ) → j < k → StaysBelow graph nodes (get_or nodes j d) graph.arity
  pub blocks : List Block
  pub in_order : AreInOrder blocks
  pub of_first : (j : ℕ) → k ≤ j → j < length nodes → All (λ b. b.node < get_or nodes j 0) blocks
  pub only : All (IsBlock graph.at graph.arity AnyBy nodes) blocks
  pub listed : All (AllListed graph.at graph.arity nodes blocks) (take k nodes)
  pub count_is : length blocks ≡ count
  pub small : count ≤ min k (length nodes) * 2 ^ 32

-- ---- anchors
-- of each of so many islands the nodes that anchor its items
pub record AreAnchoredBelow (d : Design) (m : Mesh) (items : List Item) (own : List Island) (count : ℕ)
    (anchors : List (List ℕ)) : Type 0 where
  pub all : length anchors ≡ count
  pub each : (k : ℕ) (island : Island) (nodes : List ℕ) → slice_get own k ≡ Some island
      → slice_get anchors k ≡ Some nodes → AreAnchorsAmong d m items island.items nodes

-- the node is among the nodes if its disc is legal
pub record HoldsLegal (d : Design) (m : Mesh) (items : List Item) (net : ℕ) (nodes : List ℕ) (node : ℕ) : Type 0 where
  pub there : IsLegalNode d m items net node → Contains nodes node

-- none of the goals is among the nodes
pub record HoldsNone (nodes goals : List ℕ) : Type 0 where
  pub none : (v : ℕ) → Contains goals v → Contains nodes v → ⊥

-- the goals at place j, if that isn't k
pub record IsBeside (nodes : List ℕ) (anchors : List (List ℕ)) (k j : ℕ) : Type 0 where
  pub none : (goals : List ℕ) → j ≢ k → slice_get anchors j ≡ Some goals → HoldsNone nodes goals

-- ---- sizes
-- the nodes shut the island in, and this is how many they are, and how many moves lead out of them
pub record IsSizedBy (d : Design) (m : Mesh) (items : List Item) (island : Island) (others : List Island)
    (nodes : List ℕ) (size : CutSize) : Type 0 where
  pub set : IsCutSet d m items island others nodes
  pub reached : size.reached ≡ length nodes
  pub blocked : IsOutCount d m island.net nodes size.blocked
  pub few : size.blocked ≤ 2 ^ 57
