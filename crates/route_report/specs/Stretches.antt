-- What the stretches of nodes are that a report prints.
use Rattle.std.specs.Prelude.{◌≡◌, ℕ, false, List, [], ◌∷◌, flat_map, All, IsTrue}
use Rattle.route_lattice.specs.Mesh.{Mesh}
use Rattle.route_report.specs.Report.{goes_on, stretch_line}

-- a stretch: a node, and those behind it
pub record Stretch : Type 0 where
  pub first : ℕ
  pub rest : List ℕ

abbrev pub nodes_in : Stretch → List ℕ
nodes_in s = s.first ∷ s.rest

abbrev pub last_from : ℕ → List ℕ → ℕ
last_from first [] = first
last_from first (node ∷ nodes) = last_from node nodes

-- each node is the next one on the row of the node before
abbrev pub GoOn : Mesh → ℕ → List ℕ → Type 0
GoOn m node [] = Unit {0}
GoOn m node (next ∷ nodes) = IsTrue (goes_on m node next) × GoOn m next nodes

-- no stretch goes on to the one behind it
abbrev pub EndEach : Mesh → List Stretch → Type 0
EndEach m [] = Unit {0}
EndEach m (a ∷ []) = Unit {0}
EndEach m (a ∷ b ∷ others) = (goes_on m (last_from a.first a.rest) b.first ≡ false) × EndEach m (b ∷ others)

-- the nodes, in order, are these stretches, each as long as it can be
pub record AreLongest (m : Mesh) (nodes : List ℕ) (stretches : List Stretch) : Type 0 where
  pub all : nodes ≡ flat_map nodes_in stretches
  pub each : All (λ (s : Stretch). GoOn m s.first s.rest) stretches
  pub ends : EndEach m stretches

-- its line
abbrev pub line_of : Mesh → Stretch → List ℕ
line_of m s = stretch_line m s.first (last_from s.first s.rest)
