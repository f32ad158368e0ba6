-- The stated walk: of the walks from a start to a goal the first by price, then by how many moves it has, then by its
-- nodes, then by the indices of its moves.
use Rattle.std.specs.Prelude.{◌≡◌, ◌⊎◌, ◌↔◌, ℕ, ◌<◌, ◌^◌, List, [], ◌∷◌, ◌++◌, map, length, Contains}
use Rattle.route_lattice.specs.declared.moves.Found.{Found}
use Rattle.route_lattice.specs.declared.moves.Walk.{Walk}
use Rattle.route_lattice.specs.Walks.{MoveGraph, Hop, Leads, cost, to_of, IsWalk, IsLeastWalk, NoneLeads, IsReach}

-- the first list comes before the second: by the first place at which they differ
abbrev pub IsLower : List ℕ → List ℕ → Type 0
IsLower [] ys = ⊥
IsLower (x ∷ xs) [] = ⊥
IsLower (x ∷ xs) (y ∷ ys) = (x < y) ⊎ ((x ≡ y) × IsLower xs ys)

abbrev pub IsFirst : List ℕ → List ℕ → Type 0
IsFirst xs ys = IsLower xs ys ⊎ (xs ≡ ys)

abbrev pub index_of : Hop → ℕ
index_of h = h.index

-- by what walks are compared: the price, how many moves there are, the nodes, and the moves' indices
abbrev pub key_of : ℕ → List Hop → List ℕ
key_of from hops = cost hops ∷ length hops ∷ (from ∷ map to_of hops) ++ map index_of hops

-- w is a walk from a start to a goal, and of such walks the first
pub record IsStated (graph : MoveGraph) (starts goals : List ℕ) (w : Walk) : Type 0 where
  pub walk : IsWalk graph starts goals w
  pub first : (s : ℕ) (hs : List Hop) (g : ℕ) → Contains starts s → Contains goals g → Leads graph s hs g
      → IsFirst (key_of walk.from walk.hops) (key_of s hs)
  pub small : w.price < 2 ^ 60

-- the stated walk, or none and all that is reached
abbrev pub AnswersStated : MoveGraph → List ℕ → List ℕ → Found → Type 0
AnswersStated graph starts goals (Found.Walk w) = IsStated graph starts goals w
AnswersStated graph starts goals (Found.Closed r) = NoneLeads graph starts goals × IsReach graph starts r.nodes

-- it is a least one
abbrev pub AreLeastStated : MoveGraph → Type 0
AreLeastStated graph = (starts goals : List ℕ) (w : Walk) → IsStated graph starts goals w
    → IsLeastWalk graph starts goals w

-- and there is one, whatever the order of starts and goals
abbrev pub AreOneStated : MoveGraph → Type 0
AreOneStated graph = (starts goals ss gs : List ℕ) (v w : Walk) → ((n : ℕ) → Contains starts n ↔ Contains ss n)
    → ((n : ℕ) → Contains goals n ↔ Contains gs n) → IsStated graph starts goals v → IsStated graph ss gs w → v ≡ w
