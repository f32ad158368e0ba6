-- The copper of a walk: wires of the net's width with two points or more, and vias.
use Rattle.std.proofs.Common.{ℕ, ◌≤◌, ◌==◌, Bool, true, false, List, [], ◌∷◌, length, All, refl, arith}
use Rattle.std.proofs.lemmas.List.{length-map}
use Rattle.std.proofs.lemmas.List.Elements.{All-nil, All-cons}
use Rattle.pcb_model.specs.declared.item.Metal.TheVariants as metal
use Rattle.pcb_model.specs.declared.design.Design.{Design}
use Rattle.pcb_model.specs.Rules.{width_for}
use Rattle.route_lattice.specs.declared.moves.Move.{Move}
use Rattle.route_lattice.specs.declared.moves.Move.TheVariants as move
use Rattle.route_lattice.specs.Mesh.{Mesh, point_of, layer_of}
use Rattle.path_wire.specs.Lays.{IsWireOrVia}
use Rattle.path_wire.specs.Wires.{MovesLead, IsNetWalk, unless_straight, corners, copper_from, copper_of}
use Rattle.path_wire.proofs.Walking.{each_metal}

module _ (d : Design) (m : Mesh) (net : ℕ) where
  -- a stretch of steps ends at a corner or at its last node
  some_corner : (v w : ℕ) (vs : List ℕ) (dir : ℕ) (ms : List Move) → MovesLead d m net (v ∷ w ∷ vs) (move.Step dir ∷ ms)
      → 1 ≤ length (corners (w ∷ vs) (move.Step dir ∷ ms))
  some_corner v w vs dir [] h = omega arith
  some_corner v w vs dir (move.Via padstack layer ∷ ms) h = omega arith
  some_corner v w [] dir (move.Step next ∷ ms) h = absurd h.1
  some_corner v w (u ∷ vs) dir (move.Step next ∷ ms) h = either (dir == next) (some_corner w u vs next ms h.1)
    where
      either : (b : Bool) → 1 ≤ length (corners (u ∷ vs) (move.Step next ∷ ms))
          → 1 ≤ length (unless_straight b w (corners (u ∷ vs) (move.Step next ∷ ms)))
      either true k = k
      either false k = omega arith

  routed : (fresh : Bool) (v : ℕ) (vs : List ℕ) (ms : List Move) → MovesLead d m net (v ∷ vs) ms
      → All (IsWireOrVia (width_for d net)) (copper_from m (width_for d net) fresh (v ∷ vs) ms)
  routed = each_metal m (width_for d net) (IsWireOrVia (width_for d net)) (λ v vs ms. MovesLead d m net (v ∷ vs) ms)
      (λ v a ms h. h) (λ v w vs a ms h. h.1) (λ v w vs padstack layer ms h. tt)
      (λ v w vs dir ms h.
      let some = some_corner v w vs dir ms h in
      let all = length-map (v ∷ corners (w ∷ vs) (move.Step dir ∷ ms)) (point_of m) in
      (refl, omega (arith, some, all)))

  pub routes : (nodes : List ℕ) (ms : List Move) → IsNetWalk d m net nodes ms
      → All (IsWireOrVia (width_for d net)) (copper_of d m net nodes ms)
  routes [] [] h = absurd h.leads
  routes [] (a ∷ ms) h = absurd h.leads
  routes (v ∷ vs) [] h = All-cons (IsWireOrVia (width_for d net))
      (metal.Wire (layer_of m v) (width_for d net) (point_of m v ∷ point_of m v ∷ [])) [] (refl, omega arith)
      (All-nil (IsWireOrVia (width_for d net)))
  routes (v ∷ vs) (a ∷ ms) h = routed true v vs (a ∷ ms) h.leads
