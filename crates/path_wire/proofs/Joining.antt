-- The copper of a walk hangs together from its first node to its last.
use Rattle.std.proofs.Common.{◌≡◌, ℕ, ℤ, zero, suc, ◌<◌, Bool, true, false, not, ◌&&◌, ◌==◌, List, [], ◌∷◌, map, length}
use Rattle.std.proofs.Common.{refl, sym, ap, ap₂, ◌∙◌, subst, arith}
use Rattle.std.specs.Prelude.{Contains}
use Rattle.std.proofs.lemmas.List.Elements.{All-head}
use Rattle.geo_kernel.specs.declared.point.Point.{Point}
use Rattle.pcb_model.specs.declared.item.Piece.{Piece}
use Rattle.pcb_model.specs.declared.item.Metal.{Metal}
use Rattle.pcb_model.specs.declared.item.Metal.TheVariants as metal
use Rattle.pcb_model.specs.declared.item.Probe.{Probe}
use Rattle.pcb_model.specs.declared.design.Design.{Design}
use Rattle.pcb_model.specs.Rules.{width_for}
use Rattle.pcb_model.specs.Pieces.{padstack_pieces}
use Rattle.route_lattice.specs.declared.moves.Move.{Move}
use Rattle.route_lattice.specs.declared.moves.Move.TheVariants as move
use Rattle.route_lattice.specs.Mesh.{Mesh, node_count, node_at, column, row, point_of, layer_of}
use Rattle.route_lattice.specs.Fits.{FitsDesign}
use Rattle.route_lattice.specs.Near.{are_near_at}
use Rattle.route_lattice.specs.Ways.{has_copper, can_join}
use Rattle.route_lattice.proofs.Places.{row_below}
use Rattle.route_lattice.proofs.Windows.{column_below}
use Rattle.route_lattice.proofs.Fitting.{both}
use Rattle.path_wire.specs.Wires.{IsNetWalk, unless_straight, goes_on, corners, wire_from, copper_from, copper_of}
use Rattle.path_wire.specs.Joins.{HasNode, Connect, last_node}
use Rattle.path_wire.proofs.Dirs.{x_at, y_at, layer_at}
use Rattle.path_wire.proofs.Walking.{Walks, walks_on, move_straight, IsViaOf, move_via}

-- ---- what a list has
pub has_first : {X : Type 0} (x : X) (xs : List X) → Contains (x ∷ xs) x
has_first x xs = (0, omega arith, refl)

pub has_later : {X : Type 0} (x y : X) (xs : List X) → Contains xs y → Contains (x ∷ xs) y
has_later x y xs (k, h, e) = (suc k, omega arith, e)

pub Contains-map : {X Y : Type 0} (f : X → Y) (xs : List X) (x : X) → Contains xs x → Contains (map f xs) (f x)
Contains-map f [] x (k, h, e) = absurd (omega arith)
Contains-map f (y ∷ ys) x (zero, h, e) = subst (λ z. Contains (f y ∷ map f ys) z) (ap f e) (has_first (f y) (map f ys))
Contains-map f (y ∷ ys) x (suc k, h, e) = has_later (f y) (f x) (map f ys) (Contains-map f ys x (k, omega arith, e))

abbrev made : ℤ → ℤ → Point
made x y = record { x = x; y = y }

-- ---- the end of a stretch
abbrev pub stretch_end : ℕ → List ℕ → List Move → ℕ
stretch_end v (w ∷ vs) (move.Step dir ∷ ms) = stretch_end w vs ms
stretch_end v _ _ = v

end_of_none : (v : ℕ) (vs : List ℕ) → stretch_end v vs [] ≡ v
end_of_none v [] = refl
end_of_none v (w ∷ vs) = refl

end_at_via : (v padstack layer : ℕ) (vs : List ℕ) (ms : List Move) → stretch_end v vs (move.Via padstack layer ∷ ms) ≡ v
end_at_via v padstack layer [] ms = refl
end_at_via v padstack layer (w ∷ vs) ms = refl

corner_kept : (t : Bool) (v u : ℕ) (rest : List ℕ) → Contains rest u → Contains (unless_straight t v rest) u
corner_kept true v u rest h = h
corner_kept false v u rest h = has_later v u rest h

-- ---- metals from v on
abbrev Reach : Design → Mesh → ℕ → List Metal → ℕ → Type 0
Reach d m v [] w = v ≡ w
Reach d m v (a ∷ metals) w = Connect d m v (a ∷ metals) w

connect_more : (d : Design) (m : Mesh) (v u w : ℕ) (a : Metal) (metals : List Metal) → HasNode d m v a → HasNode d m u a
    → Reach d m u metals w → Connect d m v (a ∷ metals) w
connect_more d m v u w a [] h k r = (h, subst (λ (x : ℕ). HasNode d m x a) r k)
connect_more d m v u w a (b ∷ metals) h k r = (h, u, k, r)

module _ (d : Design) (m : Mesh) (net : ℕ) where
  abbrev Going : ℕ → List ℕ → List Move → Type 0
  Going v vs ms = Walks d m net (λ (p : Probe). Unit {0}) v vs ms

  on : (v w : ℕ) (vs : List ℕ) (a : Move) (ms : List Move) → Going v (w ∷ vs) (a ∷ ms) → Going w vs ms
  on v w vs a ms g = walks_on d m net (λ (p : Probe). Unit {0}) v w vs a ms g

  first_there : (v : ℕ) (vs : List ℕ) (ms : List Move) → Going v vs ms → v < node_count m
  first_there v vs ms g = All-head (λ x. x < node_count m) v vs g.there

  -- the last corner of a stretch is its end
  end_corner : (v w : ℕ) (vs : List ℕ) (dir : ℕ) (ms : List Move) → Going w vs ms
      → Contains (corners (w ∷ vs) (move.Step dir ∷ ms)) (stretch_end w vs ms)
  end_corner v w vs dir [] g =
      subst (λ (u : ℕ). Contains (w ∷ corners vs []) u) (sym (end_of_none w vs)) (has_first w (corners vs []))
  end_corner v w vs dir (move.Via padstack layer ∷ ms) g =
      subst (λ (u : ℕ). Contains (w ∷ corners vs (move.Via padstack layer ∷ ms)) u)
      (sym (end_at_via w padstack layer vs ms)) (has_first w (corners vs (move.Via padstack layer ∷ ms)))
  end_corner v w [] dir (move.Step next ∷ ms) g = absurd g.leads
  end_corner v w (x ∷ vs) dir (move.Step next ∷ ms) g =
      corner_kept (goes_on dir (move.Step next ∷ ms)) w (stretch_end x vs ms) (corners (x ∷ vs) (move.Step next ∷ ms))
      (end_corner w x vs next ms (on w x vs (move.Step next) ms g))

  module _ (fits : FitsDesign d m) where
    end_layer : (v : ℕ) (vs : List ℕ) (ms : List Move) → Going v vs ms → layer_of m (stretch_end v vs ms) ≡ layer_of m v
    end_layer v vs [] g = ap (layer_of m) (end_of_none v vs)
    end_layer v vs (move.Via padstack layer ∷ ms) g = ap (layer_of m) (end_at_via v padstack layer vs ms)
    end_layer v [] (move.Step dir ∷ ms) g = absurd g.leads
    end_layer v (w ∷ vs) (move.Step dir ∷ ms) g =
        end_layer w vs ms (on v w vs (move.Step dir) ms g)
        ∙ (move_straight d m net fits v dir w (first_there v (w ∷ vs) (move.Step dir ∷ ms) g) g.leads.0).one_layer

    -- the wire of a stretch has its first node and its end
    wire_begins : (v : ℕ) (vs : List ℕ) (ms : List Move) → HasNode d m v (wire_from m (width_for d net) v vs ms)
    wire_begins v vs ms = (refl, has_first (point_of m v) (map (point_of m) (corners vs ms)))

    wire_ends : (v w : ℕ) (vs : List ℕ) (dir : ℕ) (ms : List Move) → Going v (w ∷ vs) (move.Step dir ∷ ms)
        → HasNode d m (stretch_end w vs ms) (wire_from m (width_for d net) v (w ∷ vs) (move.Step dir ∷ ms))
    wire_ends v w vs dir ms g = (
      sym (end_layer v (w ∷ vs) (move.Step dir ∷ ms) g),
      has_later (point_of m v) (point_of m (stretch_end w vs ms)) _
          (Contains-map (point_of m) (corners (w ∷ vs) (move.Step dir ∷ ms)) (stretch_end w vs ms)
          (end_corner v w vs dir ms (on v w vs (move.Step dir) ms g))),
    )

    -- a via has both its nodes
    joined : (ps : List Piece) (at : Point) (from to : ℕ) → can_join ps at from to ≡ true
        → (has_copper ps from ≡ true) × (has_copper ps to ≡ true)
    joined ps at from to e =
        let a = (both (not (from == to)) (has_copper ps from && (has_copper ps to && are_near_at at ps)) e).1 in
        let b = both (has_copper ps from) (has_copper ps to && are_near_at at ps) a in
        (b.0, (both (has_copper ps to) (are_near_at at ps) b.1).0)

    via_begins : (v padstack layer w : ℕ) → IsViaOf d m net v padstack layer w
        → HasNode d m v (metal.Via padstack (point_of m v))
    via_begins v padstack layer w via =
        (refl, (joined (padstack_pieces d padstack) (point_of m v) (layer_of m v) layer via.joins).0)

    via_ends : (v padstack layer w : ℕ) → v < node_count m → IsViaOf d m net v padstack layer w
        → HasNode d m w (metal.Via padstack (point_of m v))
    via_ends v padstack layer w h via =
        let j = row_below (length m.xs) (length m.ys) (length m.layers) v h in
        let i = column_below m v h in
        let n = node_at m via.level (row m v) (column m v) in
        subst (λ (x : ℕ). HasNode d m x (metal.Via padstack (point_of m v))) via.leads_to (
          same_point (point_of m v) (point_of m n) (sym (x_at m via.level (row m v) (column m v) j i))
              (sym (y_at m via.level (row m v) (column m v) j i)),
          subst (λ (l : ℕ). has_copper (padstack_pieces d padstack) l ≡ true)
              (sym (layer_at m via.level (row m v) (column m v) j i ∙ via.layer_is))
              (joined (padstack_pieces d padstack) (point_of m v) (layer_of m v) layer via.joins).1,
        )
      where
        same_point : (p q : Point) → p.x ≡ q.x → p.y ≡ q.y → p ≡ q
        same_point p q e f = ap₂ made e f

    -- ---- along the walk
    abbrev from_node : Bool → ℕ → List ℕ → List Move → ℕ
    from_node true v vs ms = v
    from_node false v vs ms = stretch_end v vs ms

    connects_from : (fresh : Bool) (v : ℕ) (vs : List ℕ) (ms : List Move) → Going v vs ms
        → Reach d m (from_node fresh v vs ms) (copper_from m (width_for d net) fresh (v ∷ vs) ms) (last_node v vs)
    connects_from true v [] [] g = refl
    connects_from false v [] [] g = refl
    connects_from fresh v (w ∷ vs) [] g = absurd g.leads
    connects_from fresh v [] (a ∷ ms) g = absurd g.leads
    connects_from true v (w ∷ vs) (move.Via padstack layer ∷ ms) g =
        let via = move_via d m net v padstack layer w g.leads.0 in
        connect_more d m v w (last_node w vs) (metal.Via padstack (point_of m v))
        (copper_from m (width_for d net) true (w ∷ vs) ms) (via_begins v padstack layer w via)
        (via_ends v padstack layer w (first_there v (w ∷ vs) (move.Via padstack layer ∷ ms) g) via)
        (connects_from true w vs ms (on v w vs (move.Via padstack layer) ms g))
    connects_from false v (w ∷ vs) (move.Via padstack layer ∷ ms) g =
        let via = move_via d m net v padstack layer w g.leads.0 in
        connect_more d m v w (last_node w vs) (metal.Via padstack (point_of m v))
        (copper_from m (width_for d net) true (w ∷ vs) ms) (via_begins v padstack layer w via)
        (via_ends v padstack layer w (first_there v (w ∷ vs) (move.Via padstack layer ∷ ms) g) via)
        (connects_from true w vs ms (on v w vs (move.Via padstack layer) ms g))
    connects_from true v (w ∷ vs) (move.Step dir ∷ ms) g =
        connect_more d m v (stretch_end w vs ms) (last_node w vs)
        (wire_from m (width_for d net) v (w ∷ vs) (move.Step dir ∷ ms))
        (copper_from m (width_for d net) false (w ∷ vs) ms) (wire_begins v (w ∷ vs) (move.Step dir ∷ ms))
        (wire_ends v w vs dir ms g) (connects_from false w vs ms (on v w vs (move.Step dir) ms g))
    connects_from false v (w ∷ vs) (move.Step dir ∷ ms) g = connects_from false w vs ms (on v w vs (move.Step dir) ms g)

    pub walk_connects : (v : ℕ) (vs : List ℕ) (ms : List Move) → IsNetWalk d m net (v ∷ vs) ms
        → Connect d m v (copper_of d m net (v ∷ vs) ms) (last_node v vs)
    walk_connects v [] [] w =
        ((refl, has_first (point_of m v) (point_of m v ∷ [])), (refl, has_first (point_of m v) (point_of m v ∷ [])))
    walk_connects v (x ∷ vs) [] w = absurd w.leads
    walk_connects v [] (a ∷ ms) w = absurd w.leads
    walk_connects v (x ∷ vs) (move.Via padstack layer ∷ ms) w =
        connects_from true v (x ∷ vs) (move.Via padstack layer ∷ ms)
        (record { there = w.there; leads = w.leads; laid = λ k p l. tt })
    walk_connects v (x ∷ vs) (move.Step dir ∷ ms) w =
        connects_from true v (x ∷ vs) (move.Step dir ∷ ms)
        (record { there = w.there; leads = w.leads; laid = λ k p l. tt })
