-- Steps of the check of a cut, and of the search that makes one.
use Rattle.std.specs.Prelude.{◌≡◌, ◌↔◌, ℕ, ◌<◌, List, Contains, All, Any}
use Rattle.pcb_model.specs.declared.item.Item.{Item}
use Rattle.pcb_islands.specs.declared.net.Island.{Island}
use Rattle.route_lattice.specs.Mesh.{node_count}
use Rattle.route_lattice.specs.Ground.{GroundOf}
use Rattle.route_lattice.specs.Anchors.{Anchors}
use Rattle.route_lattice.specs.Legal.{IsLegalNode}

-- each node that anchors the item, and whose disc is legal, is among the nodes
abbrev pub HoldsStarts : GroundOf → ℕ → List ℕ → Item → Type 0
HoldsStarts on net nodes a =
    (node : ℕ) → node < node_count on.lat → Anchors on.d on.lat node a → IsLegalNode on.d on.lat on.items net node
    → Contains nodes node

-- each item with this id is held so
abbrev pub HoldsStartsOf : GroundOf → ℕ → List ℕ → ℕ → Type 0
HoldsStartsOf on net nodes id = (a : Item) → Contains on.items a → a.id ≡ id → HoldsStarts on net nodes a

-- none of the nodes anchors the item
abbrev pub HoldsNone : GroundOf → List ℕ → Item → Type 0
HoldsNone on nodes a = All (λ node. Anchors on.d on.lat node a → ⊥) nodes

abbrev pub HoldsNoneOf : GroundOf → List ℕ → ℕ → Type 0
HoldsNoneOf on nodes id = (a : Item) → Contains on.items a → a.id ≡ id → HoldsNone on nodes a

-- none of the nodes anchors an item of the island
abbrev pub HoldsNoneOfIsland : GroundOf → List ℕ → Island → Type 0
HoldsNoneOfIsland on nodes o = All (HoldsNoneOf on nodes) o.items

-- the id is that of an item of some of the islands
abbrev pub IsAmong : List Island → ℕ → Type 0
IsAmong others id = Any (λ (o : Island). Contains o.items id) others

-- the numbers are the ids of the items of the islands
abbrev pub AreIdsOf : List Island → List ℕ → Type 0
AreIdsOf others ids = (id : ℕ) → Contains ids id ↔ IsAmong others id
