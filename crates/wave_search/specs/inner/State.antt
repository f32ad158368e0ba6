-- What a search keeps true.
use Rattle.std.specs.Prelude.{◌≡◌, ℕ, ◌+◌, ◌*◌, ◌^◌, ◌≤◌, ◌<◌, List, [], ◌∷◌, length, Option, Some, None, slice_get}
use Rattle.std.specs.Prelude.{Contains, Bool, true, false, nat_lt}
use Rattle.std.specs.List.Sorted.{IsStrictlyIncreasing}
use Prim.Native.Nat.{zero, suc}
use Rattle.wave_search.specs.declared.rows.Label.{Label}
use Rattle.wave_search.specs.declared.front.Entry.{Entry}
use Rattle.wave_search.specs.inner.Waiting.{Waits}
use Rattle.route_lattice.specs.declared.moves.Move.{Move}
use Rattle.route_lattice.specs.Walks.{MoveGraph, Hop, Opens, NoneCostsLess, NoneLeads, IsReach}

abbrev joined : Option (Option Label) → Option Label
joined None = None
joined (Some o) = o

-- the label of a node
unfoldable pub label_at : List (Option Label) → ℕ → Option Label
label_at t v = joined (slice_get t v)

abbrev pub done_by : ℕ → ℕ
done_by zero = 0
done_by (suc k) = 1

abbrev pub done_of : Option Label → ℕ
done_of None = 0
done_of (Some l) = done_by l.rank

-- how many nodes are done
unfoldable pub done_count : List (Option Label) → ℕ
done_count [] = 0
done_count (x ∷ xs) = done_of x + done_count xs

-- whether a price is below that of the label
abbrev pub improves_on : ℕ → Option Label → Bool
improves_on p None = true
improves_on p (Some l) = nat_lt p l.price

-- whether the label is of a node that is done
abbrev pub is_done_by : Option Label → Bool
is_done_by None = false
is_done_by (Some l) = nat_lt 0 l.rank

-- node v has got the label l
pub record IsPut (old : List (Option Label)) (v : ℕ) (l : Label) (new : List (Option Label)) : Type 0 where
  pub here : label_at new v ≡ Some l
  pub others : (u : ℕ) → (u ≡ v → ⊥) → label_at new u ≡ label_at old u
  pub size : length new ≡ length old
  pub done : done_count new + done_of (label_at old v) ≡ done_count old + done_by l.rank

-- a node that is done in the one has its label in the other
abbrev pub KeepsDone : List (Option Label) → List (Option Label) → Type 0
KeepsDone old new = (v : ℕ) (l : Label) → label_at old v ≡ Some l → 0 < l.rank → label_at new v ≡ Some l

abbrev pub entry : ℕ → ℕ → Entry
entry k v = record { key = k; node = v }

-- an open move leads from a node at one price to another at exactly its price more
pub record IsTight (graph : MoveGraph) (from before to price : ℕ) : Type 0 where
  pub hop : Hop
  pub opens : Opens graph from hop
  pub to_is : hop.to ≡ to
  pub price_is : price ≡ before + hop.price

-- a tight move of this index is this one
pub record IsTightOf (graph : MoveGraph) (from before to price i : ℕ) (move : Move) : Type 0 where
  pub tight : IsTight graph from before to price
  pub move_is : tight.hop.move ≡ move
  pub index_is : tight.hop.index ≡ i

-- of the tight moves this one has the least index
pub record IsLeastTight (graph : MoveGraph) (from before to price : ℕ) (move : Move) : Type 0 where
  pub tight : IsTight graph from before to price
  pub move_is : tight.hop.move ≡ move
  pub least : (other : IsTight graph from before to price) → tight.hop.index ≤ other.hop.index

-- the label came over an open move from a node that was done before
pub record ComesBy (graph : MoveGraph) (t : List (Option Label)) (v p r from : ℕ) : Type 0 where
  pub label : Label
  pub there : label_at t from ≡ Some label
  pub done : 0 < label.rank
  pub before : 0 < r → label.rank < r
  pub tight : IsTight graph from label.price v p

-- the label is a start's, or came from the node before
abbrev pub Comes : MoveGraph → List ℕ → List (Option Label) → ℕ → ℕ → ℕ → Option ℕ → Type 0
Comes graph starts t v p r None = Contains starts v × (p ≡ 0)
Comes graph starts t v p r (Some o) = ComesBy graph t v p r o

-- the node has a label whose price is at most q
pub record IsCheap (t : List (Option Label)) (v q : ℕ) : Type 0 where
  pub label : Label
  pub there : label_at t v ≡ Some label
  pub cheap : label.price ≤ q

-- each label stands for a walk
pub record Roots (graph : MoveGraph) (starts : List ℕ) (t : List (Option Label)) : Type 0 where
  pub size : length t ≡ graph.count
  pub comes : (v : ℕ) (l : Label) → label_at t v ≡ Some l → Comes graph starts t v l.price l.rank l.origin

-- the state of a search: `fin` nodes are done, with keys up to `level`; of node `cur` the moves below `j` are looked at
pub record IsState (graph : MoveGraph) (starts goals : List ℕ) (low : ℕ → ℕ) (t : List (Option Label)) (q : List Entry)
    (level fin cur j : ℕ) : Type 0 where
  pub roots : Roots graph starts t
  pub seeded : (s : ℕ) → Contains starts s → IsCheap t s 0
  pub priced : (v : ℕ) (l : Label) → label_at t v ≡ Some l → l.price + 2 ^ 35 * done_by l.rank ≤ 2 ^ 35 * fin
  pub ranked : (v : ℕ) (l : Label) → label_at t v ≡ Some l → l.rank ≤ fin
  pub waits : (v : ℕ) (l : Label) → label_at t v ≡ Some l → l.rank ≡ 0 → Waits q (entry (l.price + low v) v)
  pub settled : (v : ℕ) (l : Label) → label_at t v ≡ Some l → 0 < l.rank → l.price + low v ≤ level
  pub no_goal : (v : ℕ) (l : Label) → label_at t v ≡ Some l → 0 < l.rank → Contains goals v → ⊥
  pub relaxed : (v : ℕ) (l : Label) (h : Hop) → label_at t v ≡ Some l → 0 < l.rank → (v ≡ cur → h.index < j)
      → Opens graph v h → IsCheap t h.to (l.price + h.price)
  pub above : (e : Entry) → Waits q e → level ≤ e.key
  pub labelled : (e : Entry) → Waits q e → (b : ℕ) × IsCheap t e.node b × (b + low e.node ≤ e.key)
  pub done : done_count t ≡ fin

-- each node whose price and bound come to at most `most` is done, and its price is that of a walk
pub record IsExact (graph : MoveGraph) (starts : List ℕ) (low : ℕ → ℕ) (t : List (Option Label)) (most : ℕ) : Type 0
  where
    pub roots : Roots graph starts t
    pub seeded : (s : ℕ) → Contains starts s → IsCheap t s 0
    pub relaxed : (v : ℕ) (l : Label) (h : Hop) → label_at t v ≡ Some l → 0 < l.rank → Opens graph v h
        → IsCheap t h.to (l.price + h.price)
    pub waits : (v : ℕ) (l : Label) → label_at t v ≡ Some l → l.rank ≡ 0 → most < l.price + low v

-- both nodes are done, and an open move leads from the first to the second at exactly the second's price
pub record IsStep (graph : MoveGraph) (t : List (Option Label)) (u v : ℕ) : Type 0 where
  pub before : Label
  pub was : label_at t u ≡ Some before
  pub was_done : 0 < before.rank
  pub after : Label
  pub there : label_at t v ≡ Some after
  pub done : 0 < after.rank
  pub tight : IsTight graph u before.price v after.price

-- the nodes are those that have a label, ascending
pub record IsListed (t : List (Option Label)) (nodes : List ℕ) : Type 0 where
  pub ascends : IsStrictlyIncreasing nodes
  pub labelled : (v : ℕ) → Contains nodes v → (l : Label) × (label_at t v ≡ Some l)
  pub complete : (v : ℕ) (l : Label) → label_at t v ≡ Some l → Contains nodes v

-- no walk leads to a goal, and the nodes that have a label are those that are reached
pub record IsExhausted (graph : MoveGraph) (starts goals : List ℕ) (t : List (Option Label)) : Type 0 where
  pub none : NoneLeads graph starts goals
  pub reach : (nodes : List ℕ) → IsListed t nodes → IsReach graph starts nodes

-- the goal is done, and no walk to a goal costs less; no other goal is done
pub record IsFirstGoal (graph : MoveGraph) (starts goals : List ℕ) (low : ℕ → ℕ) (t : List (Option Label))
    (q : List Entry) (goal : ℕ) (label : Label) : Type 0 where
  pub there : label_at t goal ≡ Some label
  pub is_done : 0 < label.rank
  pub is_goal : Contains goals goal
  pub none_less : NoneCostsLess graph starts goals label.price
  pub state : IsState graph starts [] low t q (label.price + low goal) label.rank goal 0
