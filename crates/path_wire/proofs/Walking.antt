-- A walk of a net, move by move, with what each of its moves lays.
use Rattle.std.proofs.Common.{◌≡◌, ℕ, ◌+◌, ◌-◌, ◌*◌, ◌/◌, ◌%◌, ◌<◌, ◌≤◌, nat_lt, ◌==◌, Bool, true, false, cond, Option}
use Rattle.std.proofs.Common.{Some, None, List, [], ◌∷◌, length, All, sym, ap, ap₂, ◌∙◌, subst, arith, inl, inr}
use Rattle.std.proofs.Common.{true≢false}
use Rattle.std.specs.Prelude.{slice_index}
use Rattle.std.proofs.lemmas.Bool.{ltb-true, ltb-false}
use Rattle.std.proofs.lemmas.Nat.{div_below, mod_below}
use Rattle.route_lattice.proofs.Places.{width_positive}
use Rattle.std.proofs.lemmas.List.Elements.{All-nil, All-cons, All-head, All-tail}
use Rattle.geo_kernel.specs.Spine.{Segment}
use Rattle.pcb_model.specs.declared.item.Metal.{Metal}
use Rattle.pcb_model.specs.declared.item.Metal.TheVariants as metal
use Rattle.pcb_model.specs.declared.item.Probe.{Probe}
use Rattle.pcb_model.specs.declared.item.Probe.TheVariants as probe
use Rattle.pcb_model.specs.declared.design.Design.{Design}
use Rattle.pcb_model.specs.Rules.{width_for}
use Rattle.pcb_model.specs.Pieces.{padstack_pieces}
use Rattle.route_lattice.specs.declared.moves.Move.{Move}
use Rattle.route_lattice.specs.declared.moves.Move.TheVariants as move
use Rattle.route_lattice.specs.Mesh.{Mesh, node_count, node_at, column, row, point_of, layer_of}
use Rattle.route_lattice.specs.Fits.{FitsDesign}
use Rattle.route_lattice.specs.Ways.{vias_of, can_join, step_at, via_at, way, way_count}
use Rattle.route_lattice.proofs.Leading.{way_leads}
use Rattle.path_wire.specs.Diagonals.{wide_count, diagonal_at}
use Rattle.path_wire.proofs.Diagonals.{IsDiagonal, diagonal, legs}
use Rattle.route_lattice.specs.Legal.{probe_of}
use Rattle.path_wire.specs.Wires.{IsMoveOf, MovesLead, wire_from, copper_from}
use Rattle.path_wire.specs.Lays.{move_probes}
use Rattle.path_wire.proofs.Dirs.{chosen, node_in, some_not_none, IsStraight, step_straight}
use Rattle.path_wire.proofs.Stretches.{StepsHave}

-- ---- something of all copper, by induction over the moves
module _ (m : Mesh) (width : ℕ) (Q : Metal → Type 0) (G : ℕ → List ℕ → List Move → Type 0)
    (none : (v : ℕ) (a : Move) (ms : List Move) → ¬ (G v [] (a ∷ ms)))
    (next : (v w : ℕ) (vs : List ℕ) (a : Move) (ms : List Move) → G v (w ∷ vs) (a ∷ ms) → G w vs ms)
    (via : (v w : ℕ) (vs : List ℕ) (padstack layer : ℕ) (ms : List Move) → G v (w ∷ vs) (move.Via padstack layer ∷ ms)
    → Q (metal.Via padstack (point_of m v)))
    (wire : (v w : ℕ) (vs : List ℕ) (dir : ℕ) (ms : List Move) → G v (w ∷ vs) (move.Step dir ∷ ms)
    → Q (wire_from m width v (w ∷ vs) (move.Step dir ∷ ms))) where
  pub each_metal : (fresh : Bool) (v : ℕ) (vs : List ℕ) (ms : List Move) → G v vs ms
      → All Q (copper_from m width fresh (v ∷ vs) ms)
  each_metal true v vs [] g = All-nil Q
  each_metal false v vs [] g = All-nil Q
  each_metal fresh v [] (a ∷ ms) g = absurd (none v a ms g)
  each_metal true v (w ∷ vs) (move.Via padstack layer ∷ ms) g =
      All-cons Q (metal.Via padstack (point_of m v)) _ (via v w vs padstack layer ms g)
      (each_metal true w vs ms (next v w vs (move.Via padstack layer) ms g))
  each_metal false v (w ∷ vs) (move.Via padstack layer ∷ ms) g =
      All-cons Q (metal.Via padstack (point_of m v)) _ (via v w vs padstack layer ms g)
      (each_metal true w vs ms (next v w vs (move.Via padstack layer) ms g))
  each_metal true v (w ∷ vs) (move.Step dir ∷ ms) g =
      All-cons Q (wire_from m width v (w ∷ vs) (move.Step dir ∷ ms)) _ (wire v w vs dir ms g)
      (each_metal false w vs ms (next v w vs (move.Step dir) ms g))
  each_metal false v (w ∷ vs) (move.Step dir ∷ ms) g = each_metal false w vs ms (next v w vs (move.Step dir) ms g)

-- ---- the part of a walk from a node on, with R of what its moves lay
pub record Walks (d : Design) (m : Mesh) (net : ℕ) (R : Probe → Type 0) (v : ℕ) (vs : List ℕ) (ms : List Move) : Type 0
  where
    pub there : All (λ x. x < node_count m) (v ∷ vs)
    pub leads : MovesLead d m net (v ∷ vs) ms
    pub laid : All R (move_probes d m net (v ∷ vs) ms)

-- ---- what a move of the net is
abbrev step_dir : Move × ℕ → ℕ
step_dir (move.Step dir, to) = dir
step_dir (move.Via padstack layer, to) = 0

abbrev is_step : Option (Move × ℕ) → Bool
is_step (Some (move.Step dir, to)) = true
is_step (Some (move.Via padstack layer, to)) = false
is_step None = false

no_step : (b : Bool) (padstack layer to dir w : ℕ)
    → cond {A = Option (Move × ℕ)} b (Some (move.Via padstack layer, to)) None ≡ Some (move.Step dir, w) → ⊥
no_step b padstack layer to dir w e =
    elim (chosen b (Some (move.Via padstack layer, to)) None (Some (move.Step dir, w)) e) [
      | inl h ↦ true≢false (sym (ap is_step h.1))
      | inr h ↦ some_not_none (move.Step dir, w) h.1
    ]

module _ (d : Design) (m : Mesh) (net : ℕ) (R : Probe → Type 0) where
  pub none_left : (v : ℕ) (a : Move) (ms : List Move) → ¬ (Walks d m net R v [] (a ∷ ms))
  none_left v a ms g = g.leads

  pub walks_on : (v w : ℕ) (vs : List ℕ) (a : Move) (ms : List Move) → Walks d m net R v (w ∷ vs) (a ∷ ms)
      → Walks d m net R w vs ms
  walks_on v w vs a ms g = record {
    there = All-tail (λ x. x < node_count m) v (w ∷ vs) g.there;
    leads = g.leads.1;
    laid = All-tail R (probe_of d m net v a w) (move_probes d m net (w ∷ vs) ms) g.laid;
  }

  pub lays : (v w : ℕ) (vs : List ℕ) (a : Move) (ms : List Move) → Walks d m net R v (w ∷ vs) (a ∷ ms)
      → R (probe_of d m net v a w)
  lays v w vs a ms g = All-head R (probe_of d m net v a w) (move_probes d m net (w ∷ vs) ms) g.laid

  -- what a step of the stretch lays, if all lies on one layer
  abbrev pub Stepped : ℕ → Segment → Type 0
  Stepped layer g = R (probe.Step layer (width_for d net) g.from g.to)

module _ (d : Design) (m : Mesh) (net : ℕ) (fits : FitsDesign d m) where
  way_straight : (v i dir w : ℕ) → v < node_count m → way d m net v i ≡ Some (move.Step dir, w) → IsStraight m dir v w
  way_straight v i dir w h e = elim (chosen (nat_lt i 4) _ _ _ e) [
    | inl a ↦ step_straight d m v fits h i dir w a.1
    | inr a ↦ absurd
        (no_step (can_join (padstack_pieces d (slice_index (vias_of d net) ((i - 4) / length m.layers)))
        (point_of m v) (layer_of m v) (slice_index m.layers ((i - 4) % length m.layers)))
        _ _ _ dir w a.1)
  ]

  -- what is behind the moves along the lines and the vias is a diagonal
  pub move_diagonal : (v i : ℕ) (r : Move × ℕ) → v < node_count m → i < wide_count d m net
      → nat_lt i (way_count d m net) ≡ false → diagonal_at m v (4 + (i - way_count d m net)) ≡ Some r
      → IsDiagonal m v (4 + (i - way_count d m net)) r
  move_diagonal v i r h listed behind e =
      let le = ltb-false i (way_count d m net) behind in
      diagonal d m v r fits h (i - way_count d m net) (omega (arith, listed, le)) e

  pub move_straight : (v dir w : ℕ) → v < node_count m → IsMoveOf d m net v (move.Step dir) w → IsStraight m dir v w
  move_straight v dir w h g = elim (chosen (nat_lt g.index (way_count d m net)) _ _ _ g.leads) [
    | inl a ↦ way_straight v g.index dir w h a.1
    | inr a ↦
        let o = move_diagonal v g.index (move.Step dir, w) h g.listed a.0 a.1 in
        subst (λ (n : ℕ). IsStraight m n v w) (ap step_dir o.step) o.straight
  ]

  -- a move leads to a node
  pub move_leads : (v w : ℕ) (a : Move) → v < node_count m → IsMoveOf d m net v a w → w < node_count m
  move_leads v w a h g = elim (chosen (nat_lt g.index (way_count d m net)) _ _ _ g.leads) [
    | inl x ↦ way_leads d m net v g.index a w h x.1
    | inr x ↦ (move_diagonal v g.index (a, w) h g.listed x.0 x.1).there
  ]

  pub steps_have : (R : Probe → Type 0) (layer v : ℕ) (vs : List ℕ) (ms : List Move) → layer_of m v ≡ layer
      → Walks d m net R v vs ms → StepsHave (Stepped d m net R layer) (point_of m) v vs ms
  steps_have R layer v vs [] e g = tt
  steps_have R layer v vs (move.Via padstack to ∷ ms) e g = tt
  steps_have R layer v [] (move.Step dir ∷ ms) e g = g.leads
  steps_have R layer v (w ∷ vs) (move.Step dir ∷ ms) e g =
      let s = move_straight v dir w (All-head (λ x. x < node_count m) v (w ∷ vs) g.there) g.leads.0 in (
        s.ahead,
        subst (λ (l : ℕ). R (probe.Step l (width_for d net) (point_of m v) (point_of m w))) e
            (lays d m net R v w vs (move.Step dir) ms g),
        steps_have R layer w vs ms (s.one_layer ∙ e) (walks_on d m net R v w vs (move.Step dir) ms g),
      )

-- ---- vias
abbrev via_in : Option (Move × ℕ) → ℕ
via_in (Some (move.Via padstack layer, to)) = padstack
via_in _ = 0

abbrev layer_in : Option (Move × ℕ) → ℕ
layer_in (Some (move.Via padstack layer, to)) = layer
layer_in _ = 0

-- a via of the net's list from v to w
pub record IsViaOf (d : Design) (m : Mesh) (net v padstack layer w : ℕ) : Type 0 where
  pub place : ℕ
  pub place_below : place < length (vias_of d net)
  pub listed : slice_index (vias_of d net) place ≡ padstack
  pub joins : can_join (padstack_pieces d padstack) (point_of m v) (layer_of m v) layer ≡ true
  pub level : ℕ
  pub level_below : level < length m.layers
  pub layer_is : slice_index m.layers level ≡ layer
  pub leads_to : node_at m level (row m v) (column m v) ≡ w

no_via : (b : Bool) (dir to padstack layer w : ℕ) → cond {A = Option (Move × ℕ)} b (Some (move.Step dir, to)) None
    ≡ Some (move.Via padstack layer, w) → ⊥
no_via b dir to padstack layer w e =
    elim (chosen b (Some (move.Step dir, to)) None (Some (move.Via padstack layer, w)) e) [
      | inl h ↦ true≢false (ap is_step h.1)
      | inr h ↦ some_not_none (move.Via padstack layer, w) h.1
    ]

module _ (d : Design) (m : Mesh) (net : ℕ) where
  step_no_via : (v k padstack layer w : ℕ) → step_at m v k ≡ Some (move.Via padstack layer, w) → ⊥
  step_no_via v k padstack layer w e = elim (chosen (k == 0) _ _ _ e) [
    | inl a ↦ no_via (nat_lt (column m v + 1) (length m.xs)) 0 _ padstack layer w a.1
    | inr a ↦ elim (chosen (k == 1) _ _ _ a.1) [
      | inl b ↦ no_via (nat_lt 0 (column m v)) 1 _ padstack layer w b.1
      | inr b ↦ elim (chosen (k == 2) _ _ _ b.1) [
        | inl c ↦ no_via (nat_lt (row m v + 1) (length m.ys)) 2 _ padstack layer w c.1
        | inr c ↦ no_via (nat_lt 0 (row m v)) 3 _ padstack layer w c.1
      ]
    ]
  ]

  via_made : (v i padstack layer w : ℕ) → i < 4 + length (vias_of d net) * length m.layers → 4 ≤ i
      → via_at d m v (slice_index (vias_of d net) ((i - 4) / length m.layers)) ((i - 4) % length m.layers)
      ≡ Some (move.Via padstack layer, w) → IsViaOf d m net v padstack layer w
  via_made v i padstack layer w h k e =
      let p = slice_index (vias_of d net) ((i - 4) / length m.layers) in
      let t = (i - 4) % length m.layers in
      let below : i - 4 < length (vias_of d net) * length m.layers = omega arith in
      let some = width_positive (length m.layers) (length (vias_of d net)) (i - 4) below in
      elim (chosen (can_join (padstack_pieces d p) (point_of m v) (layer_of m v) (slice_index m.layers t))
      (Some (move.Via p (slice_index m.layers t), node_at m t (row m v) (column m v))) None
      (Some (move.Via padstack layer, w)) e) [
        | inl h ↦ record {
          place = (i - 4) / length m.layers;
          place_below = div_below (i - 4) (length m.layers) (length (vias_of d net)) some below;
          listed = ap via_in h.1;
          joins = ap₂ (λ (x y : ℕ). can_join (padstack_pieces d x) (point_of m v) (layer_of m v) y)
              (sym (ap via_in h.1)) (sym (ap layer_in h.1)) ∙ h.0;
          level = t;
          level_below = mod_below (i - 4) (length m.layers) some;
          layer_is = ap layer_in h.1;
          leads_to = ap node_in h.1;
        }
        | inr h ↦ absurd (some_not_none (move.Via padstack layer, w) h.1)
      ]

  way_via : (v i padstack layer w : ℕ) → i < way_count d m net → way d m net v i ≡ Some (move.Via padstack layer, w)
      → IsViaOf d m net v padstack layer w
  way_via v i padstack layer w listed e = elim (chosen (nat_lt i 4) _ _ _ e) [
    | inl a ↦ absurd (step_no_via v i padstack layer w a.1)
    | inr a ↦ via_made v i padstack layer w listed (ltb-false i 4 a.0) a.1
  ]

  -- a diagonal is no via
  diagonal_no_via : (v k padstack layer w : ℕ) → diagonal_at m v k ≡ Some (move.Via padstack layer, w) → ⊥
  diagonal_no_via v k padstack layer w e =
      let l = legs m v k (move.Via padstack layer, w) e in
      true≢false (ap is_step l.result)

  pub move_via : (v padstack layer w : ℕ) → IsMoveOf d m net v (move.Via padstack layer) w
      → IsViaOf d m net v padstack layer w
  move_via v padstack layer w g = elim (chosen (nat_lt g.index (way_count d m net)) _ _ _ g.leads) [
    | inl a ↦ way_via v g.index padstack layer w (ltb-true g.index (way_count d m net) a.0) a.1
    | inr a ↦ absurd (diagonal_no_via v (4 + (g.index - way_count d m net)) padstack layer w a.1)
  ]
