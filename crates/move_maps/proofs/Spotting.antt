-- Spots: what is looked up of a node by its places, where its steps lead, and what its moves lay.
use Prim.Native.Nat.{zero, suc}
use Rattle.std.proofs.Common.{◌≡◌, ℕ, ℤ, pos, ◌+◌, ◌-◌, ◌*◌, ◌/◌, ◌%◌, ◌<◌, ◌≤◌, ◌==◌, Bool, true, false}
use Rattle.std.proofs.Common.{not, ◌&&◌, cond, ltb-true, IsTrue, ◌↔◌, List, [], ◌∷◌, length, Option, Some, None, refl}
use Rattle.std.proofs.Common.{sym, ap, ◌∙◌, subst, arith, slice_index_or}
use Rattle.std.specs.Prelude.{nat_lt, slice_index, IfSome}
use Rattle.std.specs.Option.{option_map}
use Rattle.std.proofs.lemmas.Bool.{le-ltb}
use Rattle.std.proofs.lemmas.Nat.{mul-add-lt, div-mul-add, mod-mul-add}
use Rattle.geo_kernel.specs.declared.point.Point.{Point}
use Rattle.pcb_model.specs.declared.item.Item.{Item}
use Rattle.pcb_model.specs.declared.item.Probe.{Probe}
use Rattle.pcb_model.specs.declared.item.Probe.TheVariants as probe
use Rattle.pcb_model.specs.declared.design.Design.{Design}
use Rattle.pcb_model.specs.Bounds.{IsFit, IsProbeFit}
use Rattle.pcb_model.specs.Pieces.{wire_piece, padstack_pieces}
use Rattle.pcb_model.specs.Rules.{width_for}
use Rattle.pcb_model.specs.Sound.{IsSound}
use Rattle.pcb_model.proofs.Probes.{disc_fit, step_fit}
use Rattle.route_lattice.specs.declared.moves.Move.{Move}
use Rattle.route_lattice.specs.declared.moves.Move.TheVariants.{Step, Via}
use Rattle.route_lattice.specs.Fits.{FitsDesign}
use Rattle.route_lattice.specs.Mesh.{Mesh, node_count, node_at, column, row, level, point_of, layer_of}
use Rattle.route_lattice.specs.Near.{are_near_at}
use Rattle.route_lattice.specs.Ways.{step_at, via_at, vias_of, way, has_copper, can_join}
use Rattle.route_lattice.specs.Legal.{disc_at, probe_of, probe_at}
use Rattle.route_lattice.proofs.Leading.{disc_fits, probe_fits}
use Rattle.route_lattice.proofs.Places.{row_below}
use Rattle.route_lattice.proofs.Windows.{column_below}
use Rattle.move_maps.specs.declared.spot.Spot.{Spot}
use Rattle.move_maps.specs.Clear.{IsClearOf}
use Rattle.move_maps.specs.Paint.{IsClearAt}
use Rattle.move_maps.specs.Spots.{IsSpotOf, next_point, line_after, line_before, across, up, join_layers}
use Rattle.move_maps.specs.Starts.{crossing}
use Rattle.move_maps.proofs.Strides.{column_at, row_at}

-- ---- what is looked up
-- points of equal coordinates
pub point_is : (p q : Point) → p.x ≡ q.x → p.y ≡ q.y → p ≡ q
point_is p q e f =
    let F : ℤ → ℤ → Point = λ x y. record { x = x; y = y } in ap (λ x. F x p.y) e ∙ ap (λ y. F q.x y) f

-- the point of the node at three places
point_at : (m : Mesh) (l j i : ℕ) → j < length m.ys → i < length m.xs → crossing m j i ≡ point_of m (node_at m l j i)
point_at m l j i hj hi = point_is (crossing m j i) (point_of m (node_at m l j i))
    (ap (λ n. slice_index_or m.xs n (pos 0)) (sym (column_at m l j i hi)))
    (ap (λ n. slice_index_or m.ys n (pos 0)) (sym (row_at m l j i hj hi)))

-- a spot of a node's places
pub spot_of : (m : Mesh) (s : Spot) (l : ℕ) → s.node < node_count m → level m s.node ≡ l → row m s.node ≡ s.row
    → column m s.node ≡ s.column → s.at ≡ crossing m s.row s.column → s.layer ≡ slice_index m.layers l → IsSpotOf m s
spot_of m s l h hl hr hc ea el = record {
  there = h;
  row_is = hr;
  column_is = hc;
  at_is = ea ∙ ap (λ n. crossing m n s.column) (sym hr) ∙ ap (λ n. crossing m (row m s.node) n) (sym hc);
  layer_is = el ∙ ap (λ n. slice_index m.layers n) (sym hl);
}

-- ---- where steps lead
module _ (m : Mesh) (v : ℕ) (hv : v < node_count m) where
  -- a point that is there by the test by which the step is there
  by_test : (f : ℤ → Point) (b : Bool) (x : ℤ) (mv : Move) (to : ℕ) → (b ≡ true → f x ≡ point_of m to)
      → option_map f (cond b (Some x) None)
      ≡ option_map (λ (w : Move × ℕ). point_of m w.1) (cond b (Some (mv, to)) None)
  by_test f true x mv to h = ap Some (h refl)
  by_test f false x mv to h = refl

  -- the row and the column of a node are those of lines
  row_in : row m v < length m.ys
  row_in = row_below (length m.xs) (length m.ys) (length m.layers) v hv

  less : (a b : ℕ) → a < b → a - 1 < b
  less a b h = omega (arith, h)

  -- to greater x
  pub right_next : option_map (across (point_of m v).y) (line_after m.xs (column m v)) ≡ next_point m v 0
  right_next = by_test (across (point_of m v).y) (nat_lt (column m v + 1) (length m.xs))
      (slice_index_or m.xs (column m v + 1) (pos 0)) (Step 0) (node_at m (level m v) (row m v) (column m v + 1))
      (λ e. point_at m (level m v) (row m v) (column m v + 1) row_in (ltb-true (column m v + 1) (length m.xs) e))

  -- to lesser x
  pub left_next : option_map (across (point_of m v).y) (line_before m.xs (column m v)) ≡ next_point m v 1
  left_next = by_test (across (point_of m v).y) (nat_lt 0 (column m v)) (slice_index_or m.xs (column m v - 1) (pos 0))
      (Step 1) (node_at m (level m v) (row m v) (column m v - 1))
      (λ e. point_at m (level m v) (row m v) (column m v - 1) row_in
      (less (column m v) (length m.xs) (column_below m v hv)))

  -- to greater y
  pub above_next : option_map (up (point_of m v).x) (line_after m.ys (row m v)) ≡ next_point m v 2
  above_next = by_test (up (point_of m v).x) (nat_lt (row m v + 1) (length m.ys))
      (slice_index_or m.ys (row m v + 1) (pos 0)) (Step 2) (node_at m (level m v) (row m v + 1) (column m v))
      (λ e. point_at m (level m v) (row m v + 1) (column m v) (ltb-true (row m v + 1) (length m.ys) e)
      (column_below m v hv))

  -- to lesser y
  pub below_next : option_map (up (point_of m v).x) (line_before m.ys (row m v)) ≡ next_point m v 3
  below_next = by_test (up (point_of m v).x) (nat_lt 0 (row m v)) (slice_index_or m.ys (row m v - 1) (pos 0))
      (Step 3) (node_at m (level m v) (row m v - 1) (column m v))
      (λ e. point_at m (level m v) (row m v - 1) (column m v) (less (row m v) (length m.ys) row_in)
      (column_below m v hv))

module _ (m : Mesh) (v dir : ℕ) (T : List ℤ → ℕ → Option ℤ) (at : Point) (ea : at ≡ point_of m v) (zs : List ℤ) (k : ℕ)
    (line : Option ℤ) (r : Option Point) (el : line ≡ T zs k) where
  -- a step along x, as the code finds it
  pub across_told : option_map (across (point_of m v).y) (T m.xs (column m v)) ≡ next_point m v dir → zs ≡ m.xs
      → column m v ≡ k → r ≡ option_map (across at.y) line → r ≡ next_point m v dir
  across_told h ez ek er = er ∙ ap (λ (o : Option ℤ). option_map (across at.y) o) el
      ∙ ap (λ (ys : List ℤ). option_map (across at.y) (T ys k)) ez
      ∙ ap (λ n. option_map (across at.y) (T m.xs n)) (sym ek)
      ∙ ap (λ (p : Point). option_map (across p.y) (T m.xs (column m v))) ea ∙ h

  -- a step along y
  pub up_told : option_map (up (point_of m v).x) (T m.ys (row m v)) ≡ next_point m v dir → zs ≡ m.ys
      → row m v ≡ k → r ≡ option_map (up at.x) line → r ≡ next_point m v dir
  up_told h ez ek er = er ∙ ap (λ (o : Option ℤ). option_map (up at.x) o) el
      ∙ ap (λ (ys : List ℤ). option_map (up at.x) (T ys k)) ez
      ∙ ap (λ n. option_map (up at.x) (T m.ys n)) (sym ek)
      ∙ ap (λ (p : Point). option_map (up p.x) (T m.ys (row m v))) ea ∙ h

-- ---- what steps lay
-- a step of the net from a node to a point
abbrev step_to : Design → Mesh → ℕ → ℕ → Point → Probe
step_to d m g v q = probe.Step (layer_of m v) (width_for d g) (point_of m v) q

-- what a step lays that is there by a test
laid_by : (d : Design) (m : Mesh) (g v : ℕ) (b : Bool) (dir to : ℕ)
    → option_map (step_to d m g v) (option_map (λ (w : Move × ℕ). point_of m w.1) (cond b (Some (Step dir, to)) None))
    ≡ option_map (λ (w : Move × ℕ). probe_of d m g v w.0 w.1) (cond b (Some (Step dir, to)) None)
laid_by d m g v true dir to = refl
laid_by d m g v false dir to = refl

-- the four steps of a node
step_probe : (d : Design) (m : Mesh) (g v dir : ℕ) → dir < 4
    → option_map (step_to d m g v) (next_point m v dir) ≡ probe_at d m g v dir
step_probe d m g v zero h = laid_by d m g v (nat_lt (column m v + 1) (length m.xs)) 0
    (node_at m (level m v) (row m v) (column m v + 1))
step_probe d m g v (suc zero) h = laid_by d m g v (nat_lt 0 (column m v)) 1
    (node_at m (level m v) (row m v) (column m v - 1))
step_probe d m g v (suc (suc zero)) h = laid_by d m g v (nat_lt (row m v + 1) (length m.ys)) 2
    (node_at m (level m v) (row m v + 1) (column m v))
step_probe d m g v (suc (suc (suc zero))) h = laid_by d m g v (nat_lt 0 (row m v)) 3
    (node_at m (level m v) (row m v - 1) (column m v))
step_probe d m g v (suc (suc (suc (suc dir)))) h = absurd (omega (arith, h))

module _ (d : Design) (m : Mesh) (g v dir : ℕ) (hd : dir < 4) where
  -- a step that isn't there is clear
  pub none_clear : (b : Item) → ◌≡◌ {A = Option Point} None (next_point m v dir)
      → IsClearAt d g b (probe_at d m g v dir)
  none_clear b e = subst (λ (o : Option Probe). IsClearAt d g b o)
      (ap (λ (o : Option Point). option_map (step_to d m g v) o) e ∙ step_probe d m g v dir hd) tt

  module _ (q : Point) (layer width : ℕ) (at : Point) (e : Some q ≡ next_point m v dir) (el : layer ≡ layer_of m v)
      (ew : width ≡ width_for d g) (ea : at ≡ point_of m v) where
    -- what the step lays
    laid : Some (probe.Step layer width at q) ≡ probe_at d m g v dir
    laid =
        ap (λ n. Some (probe.Step n width at q)) el
        ∙ ap (λ n. Some (probe.Step (layer_of m v) n at q)) ew
        ∙ ap (λ (p : Point). Some (probe.Step (layer_of m v) (width_for d g) p q)) ea
        ∙ ap (λ (o : Option Point). option_map (step_to d m g v) o) e ∙ step_probe d m g v dir hd

    -- a step that is there is clear where what it lays is
    pub some_clear : (b : Item) (r : Bool) → (IsTrue r ↔ IsClearOf d g (probe.Step layer width at q) b)
        → (IsTrue r ↔ IsClearAt d g b (probe_at d m g v dir))
    some_clear b r h = subst (λ (o : Option Probe). IsTrue r ↔ IsClearAt d g b o) laid h

    -- and its wire is within the bounds
    pub step_fits : IsSound d → FitsDesign d m → v < node_count m → IsFit (wire_piece layer width (at ∷ q ∷ []))
    step_fits s f hv = step_fit d (probe.Step layer width at q) layer width at q refl
        (subst (λ (o : Option Probe). IfSome o (IsProbeFit d)) (sym laid) (probe_fits d m g v dir s f hv))

-- a disc at a node is within the bounds
pub disc_fits_at : (d : Design) (m : Mesh) (g v layer width : ℕ) (at : Point) → layer ≡ layer_of m v
    → width ≡ width_for d g → at ≡ point_of m v → IsSound d → FitsDesign d m → v < node_count m
    → IsFit (wire_piece layer width (at ∷ []))
disc_fits_at d m g v layer width at el ew ea s f hv =
    let P : ℕ → ℕ → Point → Type 0 = λ l w p. IsFit (wire_piece l w (p ∷ [])) in
    subst (λ l. P l width at) (sym el) (subst (λ w. P (layer_of m v) w at) (sym ew)
    (subst (λ (p : Point). P (layer_of m v) (width_for d g) p) (sym ea)
    (disc_fit d (disc_at d m g v) (layer_of m v) (width_for d g) (point_of m v) refl (disc_fits d m g v s f hv))))

-- ---- what vias lay
-- the index of a via is one of the node's
pub via_index : (vias layers n t : ℕ) → n < vias → t < layers → 4 + n * layers + t < 4 + vias * layers
via_index vias layers n t hn ht = let k = mul-add-lt n layers t vias hn ht in omega (arith, k)

-- the way of a via, by the place of its padstack and its signal layer
via_way : (d : Design) (m : Mesh) (g v n t : ℕ) → t < length m.layers
    → way d m g v (4 + n * length m.layers + t) ≡ via_at d m v (slice_index (vias_of d g) n) t
via_way d m g v n t h =
    let k = length m.layers in let i = 4 + n * k + t in
    ap (λ s. cond s (step_at m v i) (via_at d m v (slice_index (vias_of d g) ((i - 4) / k)) ((i - 4) % k)))
    (le-ltb i 4 (over n k t))
    ∙ ap (λ x. via_at d m v (slice_index (vias_of d g) (x / k)) (x % k)) (less (n * k) t)
    ∙ ap (λ x. via_at d m v (slice_index (vias_of d g) x) ((n * k + t) % k)) (div-mul-add n k t h)
    ∙ ap (λ x. via_at d m v (slice_index (vias_of d g) n) x) (mod-mul-add n k t h)
  where
    over : (n k t : ℕ) → 4 ≤ 4 + n * k + t
    over n k t = omega arith

    less : (x t : ℕ) → 4 + x + t - 4 ≡ x + t
    less x t = omega arith

-- what it lays
via_laid : (d : Design) (m : Mesh) (g v p layer to : ℕ) (b : Bool)
    → option_map (λ (w : Move × ℕ). probe_of d m g v w.0 w.1) (cond b (Some (Via p layer, to)) None)
    ≡ cond b (Some (probe.Via p (point_of m v))) None
via_laid d m g v p layer to true = refl
via_laid d m g v p layer to false = refl

-- a padstack that doesn't join two layers has no via there
not_joined : (a b c n : Bool) → (a && (b && c)) ≡ false → (a && (b && (c && n))) ≡ false
not_joined false b c n e = refl
not_joined true false c n e = refl
not_joined true true false n e = refl
not_joined true true true n e = cc

-- one that joins them has one where it stays near
all_joined : (a b c n : Bool) → (a && (b && c)) ≡ true → n ≡ true → (a && (b && (c && n))) ≡ true
all_joined false b c n e h = cc
all_joined true false c n e h = cc
all_joined true true false n e h = cc
all_joined true true true n e h = h

module _ (d : Design) (m : Mesh) (g v n t p layer to : ℕ) (at : Point) (ht : t < length m.layers)
    (ep : slice_index (vias_of d g) n ≡ p) (ea : at ≡ point_of m v) (el : layer ≡ layer_of m v)
    (et : to ≡ slice_index m.layers t) (b : Item) where
  -- the via's probe, by the test of its layers and its place
  via_is : probe_at d m g v (4 + n * length m.layers + t)
      ≡ cond (can_join (padstack_pieces d p) at layer to) (Some (probe.Via p at)) None
  via_is =
      let F : ℕ → Point → ℕ → ℕ → Option Probe = λ x q y z. cond (can_join (padstack_pieces d x) q y z)
      (Some (probe.Via x q)) None in
      ap (λ (o : Option (Move × ℕ)). option_map (λ (w : Move × ℕ). probe_of d m g v w.0 w.1) o) (via_way d m g v n t ht)
      ∙ via_laid d m g v (slice_index (vias_of d g) n) (slice_index m.layers t) (node_at m t (row m v) (column m v))
      (can_join (padstack_pieces d (slice_index (vias_of d g) n)) (point_of m v) (layer_of m v)
      (slice_index m.layers t))
      ∙ ap (λ x. F x (point_of m v) (layer_of m v) (slice_index m.layers t)) ep
      ∙ ap (λ q. F p q (layer_of m v) (slice_index m.layers t)) (sym ea)
      ∙ ap (λ y. F p at y (slice_index m.layers t)) (sym el) ∙ ap (λ z. F p at layer z) (sym et)

  -- a via that is there by a test is clear where its padstack is
  tested : (s : Bool) → (s ≡ true → IsClearOf d g (probe.Via p at) b)
      → IsClearAt d g b (cond s (Some (probe.Via p at)) None)
  tested true h = h refl
  tested false h = tt

  -- a via of a padstack that is clear wherever it is near
  pub stack_clear : (are_near_at at (padstack_pieces d p) ≡ true → IsClearOf d g (probe.Via p at) b)
      → IsClearAt d g b (probe_at d m g v (4 + n * length m.layers + t))
  stack_clear h =
      let ps = padstack_pieces d p in
      subst (λ (o : Option Probe). IsClearAt d g b o) (sym via_is)
      (tested (can_join ps at layer to) (λ e. h (last (not (layer == to)) (has_copper ps layer) (has_copper ps to)
      (are_near_at at ps) e)))
    where
      last : (a b c n : Bool) → (a && (b && (c && n))) ≡ true → n ≡ true
      last false b c n e = cc
      last true false c n e = cc
      last true true false n e = cc
      last true true true n e = e

  -- there is none where the padstack doesn't join the layers
  pub unjoined_clear : (s : Bool) → s ≡ join_layers (padstack_pieces d p) layer to → s ≡ false
      → IsClearAt d g b (probe_at d m g v (4 + n * length m.layers + t))
  unjoined_clear s es e =
      let ps = padstack_pieces d p in
      subst (λ (o : Option Probe). IsClearAt d g b o)
      (sym (via_is ∙ ap (λ x. cond x (Some (probe.Via p at)) None)
      (not_joined (not (layer == to)) (has_copper ps layer) (has_copper ps to) (are_near_at at ps) (sym es ∙ e)))) tt

  -- one that joins them isn't clear where the padstack isn't
  pub joined_shut : (s : Bool) → s ≡ join_layers (padstack_pieces d p) layer to → s ≡ true
      → ¬ (are_near_at at (padstack_pieces d p) ≡ true → IsClearOf d g (probe.Via p at) b)
      → ¬ (IsClearAt d g b (probe_at d m g v (4 + n * length m.layers + t)))
  joined_shut s es e h k =
      let ps = padstack_pieces d p in
      h (λ near. subst (λ (o : Option Probe). IsClearAt d g b o)
      (via_is ∙ ap (λ x. cond x (Some (probe.Via p at)) None)
      (all_joined (not (layer == to)) (has_copper ps layer) (has_copper ps to) (are_near_at at ps) (sym es ∙ e) near))
      k)
