-- A design with its planes: ribs, and the stubs that lead to them, as further fixed items.
use Rattle.std.specs.Prelude.{◌≡◌, ℕ, ◌+◌, ◌<◌, ◌≤◌, ◌==◌, true, List, [], ◌∷◌, ◌++◌, length, map, filter, Result, Ok}
use Rattle.std.specs.Prelude.{Err}
use Rattle.std.specs.List.{list_any, range_with_len}
use Rattle.pcb_model.specs.declared.item.Item.{Item}
use Rattle.pcb_model.specs.declared.design.Design.{Design}
use Rattle.pcb_model.specs.declared.limits.TheConstants.{MOST_ITEMS}
use Rattle.pcb_islands.specs.Islands.{pins_of}
use Rattle.route_lattice.specs.Mesh.{Mesh}
use Rattle.plane_joins.specs.declared.area.PlaneArea.{PlaneArea}
use Rattle.plane_joins.specs.declared.fault.RibFault.{RibFault}
use Rattle.plane_joins.specs.declared.fault.RibFault.TheVariants.{TooMany, Memory}
use Rattle.plane_joins.specs.Changed.{with_fixed}
use Rattle.plane_joins.specs.Planes.{load_of}
use Rattle.plane_joins.specs.Ribs.{AreRibs}
use Rattle.plane_joins.specs.Stubs.{RibGround, TriesPins, loose, with_items}

-- the item as a fixed one
abbrev pub tight : Item → Item
tight a = record { id = a.id; net = a.net; fixed = true; kind = a.kind; metal = a.metal; pieces = a.pieces }

-- the nets that have a plane, ascending
abbrev pub nets_of : Design → List PlaneArea → List ℕ
nets_of d planes =
    filter (λ net. list_any (λ (p : PlaneArea). p.net == net) planes) (range_with_len 0 (length d.nets))

-- the pins of nets, one net after another
abbrev pub TriesNets : RibGround → List ℕ → List Item → Type 0
TriesNets g [] after = after ≡ g.items
TriesNets g (net ∷ nets) after =
    (next : List Item) × TriesPins g net (pins_of g.d net) next × TriesNets (with_items g next) nets after

-- the copper in which stubs are sought at first: the design's fixed items and the ribs
abbrev pub ribbed : Design → Mesh → ℕ → List Item → RibGround
ribbed d lat via_cost ribs = record {
  d = d;
  lat = lat;
  via_cost = via_cost;
  items = d.fixed ++ map loose ribs;
  first = length d.fixed;
  last = length d.fixed + length ribs;
}

-- the design with ribs and stubs, which are routed items while they are sought, behind its fixed items
pub record IsPlaned (d : Design) (lat : Mesh) (planes : List PlaneArea) (via_cost : ℕ) (e : Design) : Type 0 where
  pub ribs : List Item
  pub are_ribs : AreRibs d planes ribs
  pub stubs : List Item
  pub are_stubs : TriesNets (ribbed d lat via_cost ribs) (nets_of d planes) ((d.fixed ++ map loose ribs) ++ stubs)
  pub is : e ≡ with_fixed d (ribs ++ map tight stubs)

-- that design, or how many items there would be at most where these are too many
abbrev pub AnswersPlaned : Design → Mesh → List PlaneArea → ℕ → Result Design RibFault → Type 0
AnswersPlaned d lat planes via_cost (Ok e) = IsPlaned d lat planes via_cost e × (load_of d planes ≤ MOST_ITEMS)
AnswersPlaned d lat planes via_cost (Err (TooMany count)) = (count ≡ load_of d planes) × (MOST_ITEMS < load_of d planes)
AnswersPlaned d lat planes via_cost (Err (Memory e)) = Unit {0}
