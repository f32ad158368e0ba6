-- The parts of a walk, and the copper of each: a wire for each longest stretch of steps, a via for each via move.
use Rattle.std.specs.Prelude.{◌≡◌, ◌⊎◌, ◌≤◌, ◌==◌, ℕ, suc, not, Bool, false, List, [], ◌∷◌, length, map, flat_map}
use Rattle.std.specs.Prelude.{filter, All, Option, Some, slice_get}
use Rattle.std.specs.List.{enumerate_from}
use Rattle.pcb_model.specs.declared.item.Metal.{Metal}
use Rattle.pcb_model.specs.declared.item.Metal.TheVariants as metal
use Rattle.route_lattice.specs.declared.moves.Move.{Move}
use Rattle.route_lattice.specs.declared.moves.Move.TheVariants as move
use Rattle.route_lattice.specs.Mesh.{Mesh, point_of, layer_of}
use Rattle.path_wire.specs.Joins.{last_node}

-- ---- a walk in parts
-- a node, the nodes that the part's moves lead to, and its moves
pub data Part : Type 0 where
  part : ℕ → List ℕ → List Move → Part

abbrev pub nodes_behind : Part → List ℕ
nodes_behind (part v vs ms) = vs

abbrev pub moves_of : Part → List Move
moves_of (part v vs ms) = ms

-- one via move
abbrev pub IsVia : List Move → Type 0
IsVia (move.Via padstack layer ∷ []) = Unit {0}
IsVia _ = ⊥

-- a step
abbrev pub IsStep : Move → Type 0
IsStep (move.Step dir) = Unit {0}
IsStep (move.Via padstack layer) = ⊥

-- one step or more, and no via move
abbrev pub AreSteps : List Move → Type 0
AreSteps ms = (1 ≤ length ms) × All IsStep ms

-- a stretch of steps, or one via move
abbrev pub IsPart : Part → Type 0
IsPart (part v vs ms) = (length vs ≡ length ms) × (AreSteps ms ⊎ IsVia ms)

-- from the node on, each part begins where the one before it ends
abbrev pub Follow : ℕ → List Part → Type 0
Follow u [] = Unit {0}
Follow u (part v vs ms ∷ parts) = (v ≡ u) × Follow (last_node v vs) parts

-- of two neighbours one is a via move, so no stretch could be longer
abbrev pub AreLongest : List Part → Type 0
AreLongest [] = Unit {0}
AreLongest (p ∷ []) = Unit {0}
AreLongest (p ∷ q ∷ parts) = (IsVia (moves_of p) ⊎ IsVia (moves_of q)) × AreLongest (q ∷ parts)

-- these are the parts of the walk from a node over further nodes by the moves
pub record AreParts (v : ℕ) (vs : List ℕ) (ms : List Move) (parts : List Part) : Type 0 where
  pub nodes_are : flat_map nodes_behind parts ≡ vs
  pub moves_are : flat_map moves_of parts ≡ ms
  pub each : All IsPart parts
  pub follow : Follow v parts
  pub longest : AreLongest parts

-- ---- the copper of a part
-- both are steps, of one direction
abbrev pub goes_straight : Option Move → Option Move → Bool
goes_straight (Some (move.Step a)) (Some (move.Step b)) = a == b
goes_straight a b = false

-- the node that move i leads to is a bend, unless move i + 1 goes straight on
abbrev pub is_bend : List Move → ℕ → Bool
is_bend ms i = not (goes_straight (slice_get ms i) (slice_get ms (suc i)))

-- those of the nodes behind the first that are bends; the last one is
abbrev pub bends : List ℕ → List Move → List ℕ
bends vs ms = map (λ (x : ℕ × ℕ). x.1) (filter (λ (x : ℕ × ℕ). is_bend ms x.0) (enumerate_from 0 vs))

-- a via at the part's node; or a wire of the width on its layer, with its node and its bends as vertices
abbrev pub part_metal : Mesh → ℕ → Part → Metal
part_metal m width (part v vs (move.Via padstack layer ∷ ms)) = metal.Via padstack (point_of m v)
part_metal m width (part v vs ms) = metal.Wire (layer_of m v) width (map (point_of m) (v ∷ bends vs ms))
