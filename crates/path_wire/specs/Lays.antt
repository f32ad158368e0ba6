-- What a walk lays, move by move.
use Rattle.std.specs.Prelude.{◌≡◌, ℕ, ◌≤◌, List, [], ◌∷◌, length, Some, false}
use Rattle.pcb_model.specs.declared.item.Metal.{Metal}
use Rattle.pcb_model.specs.declared.item.Metal.TheVariants as metal
use Rattle.pcb_model.specs.declared.item.Item.{Item}
use Rattle.pcb_model.specs.declared.item.Probe.{Probe}
use Rattle.pcb_model.specs.declared.design.Design.{Design}
use Rattle.pcb_model.specs.Pieces.{pieces_of, metal_of, item_of}
use Rattle.pcb_model.specs.Board.{AreInside, IsMetalLaid}
use Rattle.pcb_model.specs.Sound.{IsItemOf}
use Rattle.route_lattice.specs.declared.moves.Move.{Move}
use Rattle.route_lattice.specs.Mesh.{Mesh}
use Rattle.route_lattice.specs.Legal.{disc_at, probe_of}

-- the step or via of each move
abbrev pub move_probes : Design → Mesh → ℕ → List ℕ → List Move → List Probe
move_probes d m net (v ∷ w ∷ vs) (a ∷ ms) = probe_of d m net v a w ∷ move_probes d m net (w ∷ vs) ms
move_probes d m net _ _ = []

-- and before them the disc at the first node
abbrev pub walk_probes : Design → Mesh → ℕ → List ℕ → List Move → List Probe
walk_probes d m net [] moves = []
walk_probes d m net (v ∷ vs) moves = disc_at d m net v ∷ move_probes d m net (v ∷ vs) moves

-- the routed item of the net that a metal makes
abbrev pub laid_item : Design → ℕ → ℕ → Metal → Item
laid_item d net id a = item_of d id (Some net) false a

-- what the probe stands for lies inside every boundary
abbrev pub IsProbeInside : Design → Probe → Type 0
IsProbeInside d p = AreInside d.bounds (pieces_of d (metal_of p))

abbrev pub IsMetalInside : Design → Metal → Type 0
IsMetalInside d a = AreInside d.bounds (pieces_of d a)

-- a wire of the width with two points or more, or a via
abbrev pub IsWireOrVia : ℕ → Metal → Type 0
IsWireOrVia width (metal.Wire layer w chain) = (w ≡ width) × (2 ≤ length chain)
IsWireOrVia width (metal.Via padstack at) = Unit {0}
IsWireOrVia width (metal.Pad pin) = ⊥
IsWireOrVia width (metal.Ban wires vias) = ⊥

-- the metal is laid as the net wants it, and its item fits the design
pub record IsWellLaid (d : Design) (net id : ℕ) (a : Metal) : Type 0 where
  pub laid : IsMetalLaid d (Some net) a
  pub fits : IsItemOf d (laid_item d net id a)
