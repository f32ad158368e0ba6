-- What the private functions that seek stubs give.
use Rattle.std.specs.Prelude.{◌≡◌, ℕ, ◌-◌, ◌<◌, ◌≤◌, ◌^◌, Bool, true, false, List, [], ◌∷◌, ◌++◌, length, map, Some}
use Rattle.std.specs.Prelude.{slice_get}
use Rattle.pcb_model.specs.declared.item.Item.{Item}
use Rattle.pcb_model.specs.declared.item.Metal.{Metal}
use Rattle.pcb_model.specs.declared.design.Design.{Design}
use Rattle.pcb_model.specs.Bounds.{HasClearancesWithin}
use Rattle.pcb_model.specs.Sound.{IsFixedSound, IsSound}
use Rattle.pcb_tiles.specs.Spread.{ServesSpread, Spread}
use Rattle.pcb_islands.specs.declared.net.Island.{Island}
use Rattle.pcb_islands.specs.Islands.{pins_of}
use Rattle.route_lattice.specs.declared.moves.Move.{Move}
use Rattle.route_lattice.specs.declared.moves.Walk.{Walk}
use Rattle.route_lattice.specs.Fits.{FitsDesign}
use Rattle.route_lattice.specs.Legal.{CanMove}
use Rattle.route_lattice.specs.Mesh.{Mesh, node_count}
use Rattle.route_lattice.specs.Walks.{Hop, Leads, move_of, to_of}
use Rattle.plane_joins.specs.Planned.{TriesNets}
use Rattle.plane_joins.specs.Stubs.{HoldsRib, IsServed, IsStub, RibGround, TriesPin, TriesPins, laid_from, loose}
use Rattle.plane_joins.specs.Stubs.{with_items}
use Rattle.plane_joins.specs.inner.Graph.{IsEnd, stub_graph}

-- the ground of some parts
abbrev pub rib_ground : Design → Mesh → ℕ → List Item → ℕ → ℕ → RibGround
rib_ground d lat via_cost items first last =
    record { d = d; lat = lat; via_cost = via_cost; items = items; first = first; last = last }

-- ---- copper
-- tiles with the design's fixed items, and behind them ribs and stubs, which are routed items there
pub record IsRibCopper (d : Design) (lat : Mesh) (via_cost : ℕ) (tiles : Spread) (added : List Item) : Type 0 where
  pub sound : IsSound d
  pub fits : FitsDesign d lat
  pub small_cost : via_cost ≤ 2 ^ 30
  pub held : tiles.items ≡ d.fixed ++ map loose added
  pub reach : HasClearancesWithin tiles.reach d
  pub each : (i : ℕ) (a : Item) → slice_get (d.fixed ++ added) i ≡ Some a → IsFixedSound d i a

-- ---- moves
-- what the moves of stubs are to a caller
pub record StubMovesOf : Type 0 where
  pub on : RibGround
  pub net : ℕ

-- they may be asked for
pub record AreStubMoves (d : Design) (lat : Mesh) (net via_cost : ℕ) (tiles : Spread) : Type 0 where
  pub can : CanMove d lat net via_cost
  pub serves : ServesSpread tiles d

-- ---- walks to the last node
-- the walk leads over the graph to its last node
pub record LeadsToLast (g : RibGround) (net : ℕ) (w : Walk) : Type 0 where
  pub from : ℕ
  pub there : from < node_count g.lat
  pub hops : List Hop
  pub leads : Leads (stub_graph g net) from hops (node_count g.lat)
  pub nodes : w.nodes ≡ from ∷ map to_of hops
  pub moves : w.moves ≡ map move_of hops

-- v is w, but that its last move is a legal via that touches a rib, and leads where that via does
pub record LandsAs (g : RibGround) (net : ℕ) (w v : Walk) : Type 0 where
  pub node : ℕ
  pub mv : Move
  pub to : ℕ
  pub at_end : slice_get w.nodes (length w.moves - 1) ≡ Some node
  pub ends : IsEnd g net node mv to
  pub front : List ℕ
  pub end : ℕ
  pub nodes_were : w.nodes ≡ front ++ end ∷ []
  pub nodes_are : v.nodes ≡ front ++ to ∷ []
  pub before : List Move
  pub last : Move
  pub moves_were : w.moves ≡ before ++ last ∷ []
  pub moves_are : v.moves ≡ before ++ mv ∷ []
  pub price : v.price ≡ w.price

-- ---- pins and nets
-- the island is served, or gets a stub
abbrev pub TriesIsland : RibGround → Island → RibGround → Bool → Type 0
TriesIsland g s new false = IsServed g s × (new ≡ g)
TriesIsland g s new true = ¬ (HoldsRib g s) × (metals : List Metal) × IsStub g s metals
    × (new ≡ with_items g (g.items ++ laid_from g.d s.net (length g.items) metals))

-- a pin is tried, and the copper is as before where no stub came
pub record HasTriedPin (g : RibGround) (net pin : ℕ) (new : RibGround) (laid : Bool) : Type 0 where
  pub tries : TriesPin g net pin new.items
  pub same : new ≡ with_items g new.items
  pub none : laid ≡ false → new ≡ g

pub record PassesPin (g : RibGround) (net pin : ℕ) (new : RibGround) : Type 0 where
  pub tries : TriesPin g net pin new.items
  pub same : new ≡ with_items g new.items

pub record PassesNet (g : RibGround) (net : ℕ) (new : RibGround) : Type 0 where
  pub tries : TriesPins g net (pins_of g.d net) new.items
  pub same : new ≡ with_items g new.items

pub record PassesNets (g : RibGround) (nets : List ℕ) (new : RibGround) : Type 0 where
  pub tries : TriesNets g nets new.items
  pub same : new ≡ with_items g new.items

-- what the rest of the pins take from here, all of them take from the first copper
pub record LeadsPins (g : RibGround) (net : ℕ) (all : List ℕ) (items : List Item) (rest : List ℕ) : Type 0 where
  pub on : (after : List Item) → TriesPins (with_items g items) net rest after → TriesPins g net all after

-- so it is with nets
pub record LeadsNets (g : RibGround) (all : List ℕ) (items : List Item) (rest : List ℕ) : Type 0 where
  pub on : (after : List Item) → TriesNets (with_items g items) rest after → TriesNets g all after

-- the items behind the design's own, as fixed items
pub record AreAdded (d : Design) (items added : List Item) : Type 0 where
  pub held : items ≡ d.fixed ++ map loose added
  pub each : (i : ℕ) (a : Item) → slice_get (d.fixed ++ added) i ≡ Some a → IsFixedSound d i a
