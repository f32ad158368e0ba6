-- Counts of the items that shut each move of a group.
use Rattle.std.specs.Prelude.{◌≡◌, ℕ, ◌+◌, ◌*◌, ◌^◌, ◌≤◌, ◌<◌, ◌⊎◌, ◌-◌, ◌==◌, min, cond, List, [], ◌∷◌, ◌++◌, map}
use Rattle.std.specs.Prelude.{length, Option, Some, None, All, slice_index}
use Rattle.pcb_model.specs.declared.item.Item.{Item}
use Rattle.pcb_model.specs.declared.item.Probe.{Probe}
use Rattle.pcb_model.specs.declared.design.Design.{Design}
use Rattle.pcb_model.specs.Pieces.{pieces_of, metal_of}
use Rattle.pcb_model.specs.Board.{AreInside}
use Rattle.pcb_model.specs.Sound.{IsItemOf}
use Rattle.copper_change.specs.Changes.{IsMerge, IsChange}
use Rattle.route_lattice.specs.Mesh.{Mesh, node_count}
use Rattle.route_lattice.specs.Ways.{way_count}
use Rattle.route_lattice.specs.Legal.{probe_at}
use Rattle.move_maps.specs.declared.map.GroupMap.{GroupMap}
use Rattle.move_maps.specs.Groups.{AreAlike, AreMapped}
use Rattle.move_maps.specs.Clear.{IsClearOf}

-- of just n elements of the list P doesn't hold
abbrev pub Misses : {X : Type 0} → (X → Type 0) → List X → ℕ → Type 0
Misses P [] n = n ≡ 0
Misses P (x ∷ xs) n = (P x × Misses P xs n) ⊎ (¬ (P x) × (m : ℕ) × (n ≡ m + 1) × Misses P xs m)

-- 0 where the probe lies inside, else 1
abbrev pub IsOutside : Design → Probe → ℕ → Type 0
IsOutside d p n = (AreInside d.bounds (pieces_of d (metal_of p)) × (n ≡ 0))
    ⊎ (¬ (AreInside d.bounds (pieces_of d (metal_of p))) × (n ≡ 1))

-- how much shuts a move: the items that it is not clear of, and one more where it lies outside
abbrev pub ShutBy : Design → ℕ → List Item → Probe → ℕ → Type 0
ShutBy d g items p n = (k o : ℕ) × Misses (IsClearOf d g p) items k × IsOutside d p o × (n ≡ k + o)

-- the same number, or 255 once it was too large to count; 255 where there is no move
abbrev pub IsTally : Design → ℕ → List Item → Option Probe → ℕ → Type 0
IsTally d g items None n = n ≡ 255
IsTally d g items (Some p) n = (n ≡ 255) ⊎ ((n < 255) × ShutBy d g items p n)

abbrev pub first_of : GroupMap → ℕ
first_of g = g.first

-- the place of a move's tally
abbrev pub place_at : Design → Mesh → ℕ → ℕ → ℕ → ℕ
place_at d m g node i = node * way_count d m g + i

-- the map tells what shuts each move of the group on these items
pub record IsMapOf (d : Design) (m : Mesh) (items : List Item) (g : GroupMap) : Type 0 where
  pub net : g.first < length d.nets
  pub few : length g.counts ≤ 2 ^ 28
  pub size : length g.counts ≡ node_count m * way_count d m g.first
  pub tallies : (node i : ℕ) → node < node_count m → i < way_count d m g.first
      → IsTally d g.first items (probe_at d m g.first node i) (slice_index g.counts (place_at d m g.first node i))

-- the map isn't that of the net's group
abbrev pub IsNotFor : Design → ℕ → GroupMap → Type 0
IsNotFor d net g = AreAlike d g.first net → ⊥

-- the maps are those of the mapped groups, each for these items
pub record AreMapsOf (d : Design) (m : Mesh) (items : List Item) (maps : List GroupMap) : Type 0 where
  pub mapped : AreMapped d m (map first_of maps)
  pub each : All (IsMapOf d m items) maps

-- one more, or too many to count
abbrev pub more : ℕ → ℕ
more n = min 255 (n + 1)

-- one fewer, where it was counted
abbrev pub fewer : ℕ → ℕ
fewer n = cond (n == 255) 255 (n - 1)

-- what an item that comes or goes changes at a move, and that the order of the items changes nothing
pub record TalliesChange : Type 0 where
  pub come_clear : (d : Design) (g : ℕ) (items : List Item) (b : Item) (p : Probe) (n : ℕ) → IsClearOf d g p b
      → IsTally d g items (Some p) n → IsTally d g (b ∷ items) (Some p) n
  pub come_shut : (d : Design) (g : ℕ) (items : List Item) (b : Item) (p : Probe) (n : ℕ) → ¬ (IsClearOf d g p b)
      → IsTally d g items (Some p) n → IsTally d g (b ∷ items) (Some p) (more n)
  pub gone_clear : (d : Design) (g : ℕ) (items : List Item) (b : Item) (p : Probe) (n : ℕ) → IsClearOf d g p b
      → IsTally d g (b ∷ items) (Some p) n → IsTally d g items (Some p) n
  pub gone_shut : (d : Design) (g : ℕ) (items : List Item) (b : Item) (p : Probe) (n : ℕ) → ¬ (IsClearOf d g p b)
      → IsTally d g (b ∷ items) (Some p) n → IsTally d g items (Some p) (fewer n)

-- a tally of merged lists is one of the lists one after the other, and the other way round
pub record MergesTally : Type 0 where
  pub apart : (d : Design) (g : ℕ) (a b c : List Item) (o : Option Probe) (n : ℕ) → IsMerge a b c → IsTally d g c o n
      → IsTally d g (a ++ b) o n
  pub together : (d : Design) (g : ℕ) (a b c : List Item) (o : Option Probe) (n : ℕ) → IsMerge a b c
      → IsTally d g (a ++ b) o n → IsTally d g c o n

-- the maps answered for some list of items that fit the design, of which the change makes new
pub record FollowFrom (d : Design) (m : Mesh) (gone come new : List Item) (maps : List GroupMap) : Type 0 where
  pub old : List Item
  pub fit : All (IsItemOf d) old
  pub maps_are : AreMapsOf d m old maps
  pub change : IsChange old gone come new

-- the second map answers for what a change made of the items that the first answered for
pub record Follows (d : Design) (m : Mesh) (gone come : List Item) (a b : GroupMap) : Type 0 where
  pub first : b.first ≡ a.first
  pub changes : (old new : List Item) → IsChange old gone come new → IsMapOf d m old a → IsMapOf d m new b

-- the map is of a net, and has a count for each of the group's moves
pub record IsSized (d : Design) (m : Mesh) (g : GroupMap) : Type 0 where
  pub net : g.first < length d.nets
  pub size : length g.counts ≡ node_count m * way_count d m g.first
