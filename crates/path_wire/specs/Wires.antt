-- The copper of a walk: a wire for each stretch of steps, and a via for each via move.
use Rattle.std.specs.Prelude.{◌≡◌, ℕ, ◌<◌, ◌==◌, Bool, true, false, List, [], ◌∷◌, map, All, Some}
use Rattle.pcb_model.specs.declared.item.Metal.{Metal}
use Rattle.pcb_model.specs.declared.item.Metal.TheVariants as metal
use Rattle.pcb_model.specs.declared.design.Design.{Design}
use Rattle.pcb_model.specs.Rules.{width_for}
use Rattle.route_lattice.specs.declared.moves.Move.{Move}
use Rattle.route_lattice.specs.declared.moves.Move.TheVariants as move
use Rattle.route_lattice.specs.Mesh.{Mesh, node_count, point_of, layer_of}
use Rattle.path_wire.specs.Diagonals.{wide_way, wide_count}

-- ---- walks of a net
-- the move is one of the net's at the node, along the lines, by a via or at 45 degrees, and leads to the other
pub record IsMoveOf (d : Design) (m : Mesh) (net node : ℕ) (a : Move) (to : ℕ) : Type 0 where
  pub index : ℕ
  pub listed : index < wide_count d m net
  pub leads : wide_way d m net node index ≡ Some (a, to)

-- each move leads from its node to the next, and the last move to the last node
abbrev pub MovesLead : Design → Mesh → ℕ → List ℕ → List Move → Type 0
MovesLead d m net (v ∷ []) [] = Unit {0}
MovesLead d m net (v ∷ w ∷ vs) (a ∷ ms) = IsMoveOf d m net v a w × MovesLead d m net (w ∷ vs) ms
MovesLead d m net _ _ = ⊥

-- a walk over nodes of the lattice by moves of the net, open or not
pub record IsNetWalk (d : Design) (m : Mesh) (net : ℕ) (nodes : List ℕ) (moves : List Move) : Type 0 where
  pub there : All (λ v. v < node_count m) nodes
  pub leads : MovesLead d m net nodes moves

-- ---- its copper
-- v before the rest, unless the way goes straight on at v
abbrev pub unless_straight : Bool → ℕ → List ℕ → List ℕ
unless_straight true v rest = rest
unless_straight false v rest = v ∷ rest

-- whether the moves go on by a step in the direction
abbrev pub goes_on : ℕ → List Move → Bool
goes_on dir (move.Step next ∷ ms) = dir == next
goes_on dir _ = false

-- of the nodes after the first of a stretch of steps, those at which the direction changes, and the last
abbrev pub corners : List ℕ → List Move → List ℕ
corners (v ∷ vs) (move.Step dir ∷ ms) = unless_straight (goes_on dir ms) v (corners vs ms)
corners _ _ = []

-- the wire of the stretch that begins at v: its ends and corners are its vertices
abbrev pub wire_from : Mesh → ℕ → ℕ → List ℕ → List Move → Metal
wire_from m width v vs moves = metal.Wire (layer_of m v) width (map (point_of m) (v ∷ corners vs moves))

-- the copper of the moves from a node on; `fresh` where no step leads to it, so that a step begins a stretch there
abbrev pub copper_from : Mesh → ℕ → Bool → List ℕ → List Move → List Metal
copper_from m width fresh (v ∷ vs) (move.Via padstack layer ∷ ms) =
    metal.Via padstack (point_of m v) ∷ copper_from m width true vs ms
copper_from m width true (v ∷ vs) (move.Step dir ∷ ms) =
    wire_from m width v vs (move.Step dir ∷ ms) ∷ copper_from m width false vs ms
copper_from m width false (v ∷ vs) (move.Step dir ∷ ms) = copper_from m width false vs ms
copper_from m width fresh _ _ = []

-- the copper of a walk, in order, its wires of the net's width; a walk without moves is a wire from the node's point to
-- itself
abbrev pub copper_of : Design → Mesh → ℕ → List ℕ → List Move → List Metal
copper_of d m net (v ∷ vs) [] = metal.Wire (layer_of m v) (width_for d net) (point_of m v ∷ point_of m v ∷ []) ∷ []
copper_of d m net nodes moves = copper_from m (width_for d net) true nodes moves
