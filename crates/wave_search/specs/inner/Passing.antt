-- A pass over tight moves: what its lists stand for, and what it comes to first.
use Rattle.std.specs.Prelude.{◌≡◌, ◌⊎◌, ℕ, ◌+◌, ◌<◌, List, [], ◌∷◌, ◌++◌, map, length, Option, Some, Bool, true}
use Rattle.std.specs.Prelude.{not}
use Rattle.std.specs.Prelude.{Contains, slice_get}
use Rattle.std.specs.List.{count_by}
use Rattle.std.specs.List.Sorted.{IsStrictlyIncreasing}
use Rattle.std.proofs.Math.ListN.{set}
use Rattle.route_lattice.specs.Walks.{MoveGraph}
use Rattle.wave_search.specs.declared.rows.Label.{Label}
use Rattle.wave_search.specs.declared.stated.Pass.{Pass}
use Rattle.wave_search.specs.declared.stated.TheConstants.{NO_PLACE}
use Rattle.wave_search.specs.inner.State.{label_at, IsStep}
use Rattle.wave_search.specs.inner.Spreads.{Has, IsPath, IsAtMost, IsSpread, Ascend, onto}

-- the node's mark is set
abbrev pub IsMarked : List Bool → ℕ → Type 0
IsMarked marks v = slice_get marks v ≡ Some true

-- the last node of a path, which stands first
abbrev pub first_of : List ℕ → ℕ
first_of [] = 0
first_of (v ∷ back) = v

-- behind the node of the path stands none, or the path at the place that is listed for it
abbrev pub IsBehind : List (List ℕ) → List ℕ → ℕ → List ℕ → Type 0
IsBehind paths before k back = (j : ℕ) × (slice_get before k ≡ Some j)
    × (((j ≡ NO_PLACE) × (back ≡ [])) ⊎ ((j < k) × (slice_get paths j ≡ Some back)))

-- the lists stand for these paths, each told from its last node; the marked nodes are the last ones
pub record IsTold (paths : List (List ℕ)) (p : Pass) : Type 0 where
  pub nodes_are : p.nodes.items ≡ map first_of paths
  pub many : length p.before.items ≡ length paths
  pub behind : (k v : ℕ) (back : List ℕ) → slice_get paths k ≡ Some (v ∷ back)
      → IsBehind paths p.before.items k back
  pub some : (k : ℕ) → slice_get paths k ≡ Some [] → ⊥
  pub marked : (v : ℕ) → IsMarked p.marks.items v → (back : List ℕ) × Has paths (v ∷ back)
  pub marks : (v : ℕ) (back : List ℕ) → Has paths (v ∷ back) → IsMarked p.marks.items v
  pub room : length paths + count_by not p.marks.items ≡ length p.marks.items

-- the path of the nodes before stands at the place, or there are none
abbrev pub IsPlace : List (List ℕ) → ℕ → List ℕ → Type 0
IsPlace paths place back =
    ((place ≡ NO_PLACE) × (back ≡ [])) ⊎ ((place < length paths) × (slice_get paths place ≡ Some back))

-- the nodes are added, each with the place of the path that it goes on from
pub record AddsAll (old : Pass) (fresh : List ℕ) (place : ℕ) (new : Pass) : Type 0 where
  pub size : length new.marks.items ≡ length old.marks.items
  pub told : (paths : List (List ℕ)) (back : List ℕ) → IsTold paths old → IsPlace paths place back
      → Ascend fresh → ((v : ℕ) → Has fresh v → IsMarked old.marks.items v → ⊥)
      → IsTold (paths ++ map (onto back) fresh) new

-- it has come to no nodes, and none of so many is marked
pub record IsBlankPass (count : ℕ) (p : Pass) : Type 0 where
  pub told : IsTold [] p
  pub size : length p.marks.items ≡ count

-- a node is added, with the place of the one before it
pub record Adds (old : Pass) (node place : ℕ) (new : Pass) : Type 0 where
  pub nodes_are : new.nodes.items ≡ old.nodes.items ++ node ∷ []
  pub before_is : new.before.items ≡ old.before.items ++ place ∷ []
  pub marks_are : new.marks.items ≡ set old.marks.items node true

-- a tight move leads from u to v, which isn't marked; and each tight move of that index leads there
pub record LeadsTo (graph : MoveGraph) (t : List (Option Label)) (u i : ℕ) (marks : List Bool) (v : ℕ) : Type 0 where
  pub step : IsStep graph t u v
  pub new : IsMarked marks v → ⊥
  pub only : (w : ℕ) (s : IsStep graph t u w) → s.tight.hop.index ≡ i → v ≡ w

-- the nodes are, ascending, those that tight moves lead to from u and that aren't marked
pub record AreNew (graph : MoveGraph) (t : List (Option Label)) (marks : List Bool) (u : ℕ) (fresh : List ℕ) : Type 0
  where
    pub ascend : IsStrictlyIncreasing fresh
    pub led : (v : ℕ) → Contains fresh v → IsStep graph t u v × (IsMarked marks v → ⊥)
    pub every : (v : ℕ) → IsStep graph t u v → Contains fresh v ⊎ IsMarked marks v

-- the node is done at that price
pub record IsPriced (t : List (Option Label)) (v price : ℕ) : Type 0 where
  pub label : Label
  pub there : label_at t v ≡ Some label
  pub done : 0 < label.rank
  pub price_is : label.price ≡ price

-- the pass is at place k: the nodes before it were gone on from, and none of them is a goal at the price
pub record IsAt (graph : MoveGraph) (starts goals : List ℕ) (t : List (Option Label)) (most : ℕ) (p : Pass) (k : ℕ) :
    Type 0 where
  pub done : List (List ℕ)
  pub rest : List (List ℕ)
  pub spread : IsSpread (Contains starts) (IsStep graph t) done rest
  pub told : IsTold (done ++ rest) p
  pub place : length done ≡ k
  pub sized : length p.marks.items ≡ graph.count
  pub no_goal : (u : ℕ) (back : List ℕ) → Has done (u ∷ back) → (Contains goals u × IsPriced t u most) → ⊥

-- the path at place k leads from a start to a goal at the price, and no such path comes before it
pub record EndsAt (graph : MoveGraph) (starts goals : List ℕ) (t : List (Option Label)) (most : ℕ) (p : Pass) (k : ℕ) :
    Type 0 where
  pub paths : List (List ℕ)
  pub told : IsTold paths p
  pub goal : ℕ
  pub back : List ℕ
  pub there : slice_get paths k ≡ Some (goal ∷ back)
  pub leads : IsPath (Contains starts) (IsStep graph t) (goal ∷ back)
  pub is_goal : Contains goals goal × IsPriced t goal most
  pub first : (g : ℕ) (ys : List ℕ) → IsPath (Contains starts) (IsStep graph t) (g ∷ ys)
      → (Contains goals g × IsPriced t g most) → IsAtMost (goal ∷ back) (g ∷ ys)
