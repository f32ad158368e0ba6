-- Stubs: ways from islands of a plane's net to vias that touch its ribs.
use Rattle.std.specs.Prelude.{◌≡◌, ◌⊎◌, ℕ, ◌+◌, ◌<◌, ◌≤◌, false, List, [], ◌∷◌, ◌++◌, length, map, All, Any}
use Rattle.std.specs.Prelude.{Contains, Option, Some, None, slice_get}
use Rattle.pcb_model.specs.declared.item.Item.{Item}
use Rattle.pcb_model.specs.declared.item.Metal.{Metal}
use Rattle.pcb_model.specs.declared.item.Probe.{Probe}
use Rattle.pcb_model.specs.declared.design.Design.{Design}
use Rattle.pcb_model.specs.Pairs.{AreTouching}
use Rattle.pcb_model.specs.Pieces.{probe_item}
use Rattle.pcb_islands.specs.declared.net.Island.{Island}
use Rattle.pcb_islands.specs.Islands.{AreIslands}
use Rattle.route_lattice.specs.declared.moves.Walk.{Walk}
use Rattle.route_lattice.specs.Legal.{legal_graph, probe_at}
use Rattle.route_lattice.specs.Mesh.{Mesh}
use Rattle.route_lattice.specs.Walks.{Hop, Leads, MoveGraph, cost, move_of, to_of}
use Rattle.path_wire.specs.Lays.{laid_item}
use Rattle.path_wire.specs.Wires.{copper_of}
use Rattle.cut_certificate.specs.Cuts.{IsStart}

-- the item as a routed one
abbrev pub loose : Item → Item
loose a = record { id = a.id; net = a.net; fixed = false; kind = a.kind; metal = a.metal; pieces = a.pieces }

-- where stubs are sought: in the copper ribs and stubs are routed items behind the design's fixed ones, and the ribs
-- have the ids from `first` to below `last`
pub record RibGround : Type 0 where
  pub d : Design
  pub lat : Mesh
  pub via_cost : ℕ
  pub items : List Item
  pub first : ℕ
  pub last : ℕ

-- the same with other copper
abbrev pub with_items : RibGround → List Item → RibGround
with_items g items =
    record { d = g.d; lat = g.lat; via_cost = g.via_cost; items = items; first = g.first; last = g.last }

-- ---- walks
-- the legal moves of a net
abbrev pub moves_on : RibGround → ℕ → MoveGraph
moves_on g net = legal_graph g.d g.lat g.items net g.via_cost

-- what the probe of the net stands for touches a rib
pub record TouchesRib (g : RibGround) (net : ℕ) (p : Probe) : Type 0 where
  pub rib : Item
  pub there : Contains g.items rib
  pub from_first : g.first ≤ rib.id
  pub below_last : rib.id < g.last
  pub touch : AreTouching (probe_item g.d net p) rib

abbrev pub Touches : RibGround → ℕ → Option Probe → Type 0
Touches g net None = ⊥
Touches g net (Some p) = TouchesRib g net p

-- the last of the hops from a node is a via, and it touches a rib
abbrev pub EndsAtRib : RibGround → ℕ → ℕ → List Hop → Type 0
EndsAtRib g net node [] = ⊥
EndsAtRib g net node (h ∷ []) = (4 ≤ h.index) × Touches g net (probe_at g.d g.lat net node h.index)
EndsAtRib g net node (h ∷ k ∷ hs) = EndsAtRib g net h.to (k ∷ hs)

-- ---- stubs of islands
-- legal moves lead from a legal anchor of the island to a via that touches a rib
pub record IsStubWalk (g : RibGround) (s : Island) (w : Walk) : Type 0 where
  pub from : ℕ
  pub hops : List Hop
  pub to : ℕ
  pub starts : IsStart g.d g.lat g.items s from
  pub leads : Leads (moves_on g s.net) from hops to
  pub ends : EndsAtRib g s.net from hops
  pub nodes : w.nodes ≡ from ∷ map to_of hops
  pub moves : w.moves ≡ map move_of hops
  pub price : w.price ≡ cost hops

-- no such walk costs less than p
abbrev pub NoStubCostsLess : RibGround → Island → ℕ → Type 0
NoStubCostsLess g s p =
    (from : ℕ) (hops : List Hop) (to : ℕ) → IsStart g.d g.lat g.items s from → Leads (moves_on g s.net) from hops to
    → EndsAtRib g s.net from hops → p ≤ cost hops

-- such a walk that costs least
pub record IsLeastStub (g : RibGround) (s : Island) (w : Walk) : Type 0 where
  pub leads : IsStubWalk g s w
  pub least : NoStubCostsLess g s w.price

-- the copper of one
pub record IsStub (g : RibGround) (s : Island) (metals : List Metal) : Type 0 where
  pub walk : Walk
  pub is_least : IsLeastStub g s walk
  pub metals_are : metals ≡ copper_of g.d g.lat s.net walk.nodes walk.moves

-- there is no such walk
pub record HasNoStub (g : RibGround) (s : Island) : Type 0 where
  pub none : (from : ℕ) (hops : List Hop) (to : ℕ) → IsStart g.d g.lat g.items s from
      → Leads (moves_on g s.net) from hops to → EndsAtRib g s.net from hops → ⊥

-- an item of the island is a rib
pub record HoldsRib (g : RibGround) (s : Island) : Type 0 where
  pub some : Any (λ id. (g.first ≤ id) × (id < g.last)) s.items

abbrev pub IsServed : RibGround → Island → Type 0
IsServed g s = HoldsRib g s ⊎ HasNoStub g s

-- ---- stubs of nets
-- routed items of a net, with ids from one on
abbrev pub laid_from : Design → ℕ → ℕ → List Metal → List Item
laid_from d net id [] = []
laid_from d net id (a ∷ as') = laid_item d net id a ∷ laid_from d net (id + 1) as'

-- the pin is the first of the island
abbrev pub BeginsWith : ℕ → Island → Type 0
BeginsWith pin s = slice_get s.pins 0 ≡ Some pin

-- of the islands of a net none begins with the pin, or it is served, or it gets a stub, whose items have the next ids
pub data TriesPin (g : RibGround) (net pin : ℕ) : List Item → Type 0 where
  inside : (found : List Island) → AreIslands g.d g.items net found → All (λ s. ¬ (BeginsWith pin s)) found
      → TriesPin g net pin g.items
  served : (found : List Island) (s : Island) → AreIslands g.d g.items net found → Contains found s → BeginsWith pin s
      → IsServed g s → TriesPin g net pin g.items
  stub : (found : List Island) (s : Island) (metals : List Metal) → AreIslands g.d g.items net found
      → Contains found s → BeginsWith pin s → ¬ (HoldsRib g s) → IsStub g s metals
      → TriesPin g net pin (g.items ++ laid_from g.d net (length g.items) metals)

-- pins of a net one after another
abbrev pub TriesPins : RibGround → ℕ → List ℕ → List Item → Type 0
TriesPins g net [] after = after ≡ g.items
TriesPins g net (pin ∷ pins) after =
    (next : List Item) × TriesPin g net pin next × TriesPins (with_items g next) net pins after
