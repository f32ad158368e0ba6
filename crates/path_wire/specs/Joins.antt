-- How the copper of a walk hangs together.
use Rattle.std.specs.Prelude.{◌≡◌, ℕ, List, [], ◌∷◌, Contains, IsTrue}
use Rattle.pcb_model.specs.declared.item.Metal.{Metal}
use Rattle.pcb_model.specs.declared.item.Metal.TheVariants.{Wire, Via, Pad, Ban}
use Rattle.pcb_model.specs.declared.design.Design.{Design}
use Rattle.pcb_model.specs.Pieces.{padstack_pieces}
use Rattle.route_lattice.specs.Mesh.{Mesh, point_of, layer_of}
use Rattle.route_lattice.specs.Ways.{has_copper}

-- a wire on the node's layer has the node's point as a vertex, or a via with copper on that layer has its centre there
abbrev pub HasNode : Design → Mesh → ℕ → Metal → Type 0
HasNode d m v (Wire layer width chain) = (layer ≡ layer_of m v) × Contains chain (point_of m v)
HasNode d m v (Via padstack at) = (at ≡ point_of m v) × IsTrue (has_copper (padstack_pieces d padstack) (layer_of m v))
HasNode d m v (Pad pin) = ⊥
HasNode d m v (Ban wires vias) = ⊥

-- the first metal has node v, two neighbours have a node in common, and the last metal has node w
abbrev pub Connect : Design → Mesh → ℕ → List Metal → ℕ → Type 0
Connect d m v [] w = ⊥
Connect d m v (a ∷ []) w = HasNode d m v a × HasNode d m w a
Connect d m v (a ∷ b ∷ metals) w = HasNode d m v a × (u : ℕ) × HasNode d m u a × Connect d m u (b ∷ metals) w

-- the last of a node and those that follow it
abbrev pub last_node : ℕ → List ℕ → ℕ
last_node v [] = v
last_node v (w ∷ vs) = last_node w vs
