-- Moves of a net that may take routed items out, and which routed items are in the way.
use Rattle.std.specs.Prelude.{◌≡◌, ◌⊎◌, ℕ, zero, suc, ◌+◌, ◌*◌, ◌≤◌, ◌^◌, List, [], ◌∷◌, All, Any}
use Rattle.std.specs.Prelude.{Contains, Option, Some, None}
use Rattle.std.specs.List.Sorted.{IsStrictlyIncreasing}
use Rattle.pcb_model.specs.declared.item.Item.{Item}
use Rattle.pcb_model.specs.declared.item.Probe.{Probe}
use Rattle.pcb_model.specs.declared.design.Design.{Design}
use Rattle.pcb_model.specs.Pairs.{Agrees, ProbeAgrees}
use Rattle.pcb_model.specs.Board.{IsRouted}
use Rattle.route_lattice.specs.Walks.{MoveGraph}
use Rattle.route_lattice.specs.Mesh.{Mesh, node_count}
use Rattle.route_lattice.specs.Ways.{way, way_count}
use Rattle.route_lattice.specs.Legal.{IsOpen, probe_at, way_price, CanMove}

-- ---- what is in the way
-- a routed item that disagrees with what the probe of the net stands for
pub record IsInWay (d : Design) (net : ℕ) (p : Probe) (b : Item) : Type 0 where
  pub routed : IsRouted b
  pub clashes : ¬ (ProbeAgrees d net p b)

-- a routed item that disagrees with one of the new items
pub record IsInWayOf (d : Design) (new : List Item) (b : Item) : Type 0 where
  pub routed : IsRouted b
  pub clashes : Any (λ a. ¬ (Agrees d a b)) new

-- an item with this id is in the way of the new items
pub record HasIdInWay (d : Design) (items new : List Item) (id : ℕ) : Type 0 where
  pub item : Item
  pub there : Contains items item
  pub id_is : item.id ≡ id
  pub in_way : IsInWayOf d new item

-- the ids of items that are in the way of the new items, ascending; every other routed item agrees with all new ones
pub record AreIdsInWay (d : Design) (items new : List Item) (ids : List ℕ) : Type 0 where
  pub ascend : IsStrictlyIncreasing ids
  pub each : (id : ℕ) → Contains ids id → HasIdInWay d items new id
  pub whole : (b : Item) → Contains items b → IsRouted b → Contains ids b.id ⊎ All (λ a. Agrees d a b) new

-- ---- how many
-- n is how many elements of the list have P, or the limit where more have it
abbrev pub CountsTo : {X : Type 0} → (X → Type 0) → ℕ → List X → ℕ → Type 0
CountsTo P zero xs n = n ≡ 0
CountsTo P (suc limit) [] n = n ≡ 0
CountsTo P (suc limit) (x ∷ xs) n = (P x × (m : ℕ) × (n ≡ m + 1) × CountsTo P limit xs m)
    ⊎ (¬ (P x) × CountsTo P (suc limit) xs n)

-- how many items are in the way of a probe, at most 16; none where there is no probe
abbrev pub IsCharged : Design → List Item → ℕ → Option Probe → ℕ → Type 0
IsCharged d items net None n = n ≡ 0
IsCharged d items net (Some p) n = CountsTo (IsInWay d net p) 16 items n

-- ---- moves
-- a move costs its way, and a penalty for each item in its way, of which 16 count at most
pub record IsRipPrice (d : Design) (m : Mesh) (items : List Item) (net via_cost penalty node i price : ℕ) : Type 0 where
  pub count : ℕ
  pub counted : IsCharged d items net (probe_at d m net node i) count
  pub price_is : price ≡ way_price m via_cost node (way d m net node i) + penalty * count

-- the nodes of the lattice, and the moves of the net that are legal on the fixed items alone
abbrev pub rip_graph : Design → Mesh → List Item → ℕ → ℕ → ℕ → MoveGraph
rip_graph d m items net via_cost penalty = record {
  count = node_count m;
  arity = way_count d m net;
  at = way d m net;
  open_at = λ node i. IsOpen d d.fixed net (probe_at d m net node i);
  priced = λ node i price. IsRipPrice d m items net via_cost penalty node i price;
}

-- a sound design, a lattice of it, one of its nets, a price of a via, and a penalty
pub record CanRip (d : Design) (m : Mesh) (net via_cost penalty : ℕ) : Type 0 where
  pub can_move : CanMove d m net via_cost
  pub small_penalty : penalty ≤ 2 ^ 30
