-- Steps lead to a line beside, so those of nodes off a window stay beyond it.
use Rattle.std.proofs.Common.{◌≡◌, ℕ, ◌+◌, ◌-◌, ◌*◌, ◌/◌, ◌%◌, ◌<◌, ◌≤◌, ◌==◌, Bool}
use Rattle.std.proofs.Common.{true, false, cond, ltb-true, length, Option, Some, None, refl, sym, ap}
use Rattle.std.proofs.Common.{◌∙◌, subst, arith, inl, inr}
use Rattle.std.specs.Prelude.{nat_lt, slice_index}
use Rattle.std.specs.Option.{option_map}
use Rattle.std.proofs.lemmas.Bool.{ltb-false}
use Rattle.std.proofs.lemmas.Nat.{mod-mul-add, div-mul-add}
use Rattle.pcb_model.specs.declared.item.Item.{Item}
use Rattle.pcb_model.specs.declared.item.Probe.{Probe}
use Rattle.pcb_model.specs.declared.item.Probe.TheVariants as probe
use Rattle.pcb_model.specs.declared.design.Design.{Design}
use Rattle.pcb_model.specs.declared.near.Extent.{Extent}
use Rattle.pcb_model.specs.Bounds.{HasRulesWithin}
use Rattle.pcb_model.specs.Rules.{width_for}
use Rattle.pcb_model.specs.Near.{IsExtentOf}
use Rattle.pcb_model.specs.Sound.{IsSound}
use Rattle.route_lattice.specs.declared.moves.Move.{Move}
use Rattle.route_lattice.specs.declared.moves.Move.TheVariants.{Step, Via}
use Rattle.route_lattice.specs.Fits.{FitsDesign}
use Rattle.route_lattice.specs.Mesh.{Mesh, node_count, node_at, column, row, level, point_of, layer_of}
use Rattle.route_lattice.specs.Ways.{step_at, via_at, vias_of, way}
use Rattle.route_lattice.specs.Legal.{probe_of}
use Rattle.route_lattice.proofs.Places.{row_below}
use Rattle.route_lattice.proofs.Windows.{column_below}
use Rattle.route_lattice.proofs.Leading.{way_leads}
use Rattle.route_lattice.proofs.Fitting.{point_within, width_small}
use Rattle.move_maps.specs.declared.window.Window.{Window}
use Rattle.move_maps.specs.Clear.{IsClearOf}
use Rattle.move_maps.specs.Windows.{IsWindowFor, IsOff, StepsOffAreClear}
use Rattle.move_maps.proofs.Far.{left_clear, right_clear, below_clear, above_clear}

-- the column of the node at three places
column_at : (m : Mesh) (l j i : ℕ) → i < length m.xs → column m (node_at m l j i) ≡ i
column_at m l j i h = mod-mul-add (l * length m.ys + j) (length m.xs) i h

-- and its row
row_at : (m : Mesh) (l j i : ℕ) → j < length m.ys → i < length m.xs → row m (node_at m l j i) ≡ j
row_at m l j i k h = ap (λ n. n % length m.ys) (div-mul-add (l * length m.ys + j) (length m.xs) i h)
    ∙ mod-mul-add l (length m.ys) j k

-- at most one line apart, along x and along y
record IsBeside (m : Mesh) (v to : ℕ) : Type 0 where
  columns : (column m to ≤ column m v + 1) × (column m v ≤ column m to + 1)
  rows : (row m to ≤ row m v + 1) × (row m v ≤ row m to + 1)

-- a step leads to a node at most one line away
abbrev IsStepBeside : Mesh → ℕ → Option (Move × ℕ) → Type 0
IsStepBeside m v None = Unit {0}
IsStepBeside m v (Some (Step dir, to)) = IsBeside m v to
IsStepBeside m v (Some (Via padstack layer, to)) = ⊥

-- what holds in both cases
either : {X : Type 0} (P : X → Type 0) (b : Bool) (x y : X) → (b ≡ true → P x) → (b ≡ false → P y) → P (cond b x y)
either P true x y f g = f refl
either P false x y f g = g refl

-- places that differ by at most one give nodes beside each other
beside_at : (m : Mesh) (v l j i : ℕ) → j < length m.ys → i < length m.xs → (i ≤ column m v + 1) × (column m v ≤ i + 1)
    → (j ≤ row m v + 1) × (row m v ≤ j + 1) → IsBeside m v (node_at m l j i)
beside_at m v l j i hj hi c r = record {
  columns = subst (λ n. (n ≤ column m v + 1) × (column m v ≤ n + 1)) (sym (column_at m l j i hi)) c;
  rows = subst (λ n. (n ≤ row m v + 1) × (row m v ≤ n + 1)) (sym (row_at m l j i hj hi)) r;
}

-- each step leads beside
step_beside : (m : Mesh) (v dir : ℕ) → v < node_count m → IsStepBeside m v (step_at m v dir)
step_beside m v dir h =
    let P : Option (Move × ℕ) → Type 0 = λ o. IsStepBeside m v o in
    let l = level m v in let j = row m v in let i = column m v in
    let jb = row_below (length m.xs) (length m.ys) (length m.layers) v h in
    let ib = column_below m v h in
    let go = beside_at m v l in
    either P (dir == 0) (cond (nat_lt (i + 1) (length m.xs)) (Some (Step 0, node_at m l j (i + 1))) None)
    (cond (dir == 1) (cond (nat_lt 0 i) (Some (Step 1, node_at m l j (i - 1))) None)
    (cond (dir == 2) (cond (nat_lt (j + 1) (length m.ys)) (Some (Step 2, node_at m l (j + 1) i)) None)
    (cond (nat_lt 0 j) (Some (Step 3, node_at m l (j - 1) i)) None)))
    (λ a. either P (nat_lt (i + 1) (length m.xs)) (Some (Step 0, node_at m l j (i + 1))) None
    (λ k. go j (i + 1) jb (ltb-true (i + 1) (length m.xs) k) (more i) (same j)) (λ k. tt))
    (λ a. either P (dir == 1) (cond (nat_lt 0 i) (Some (Step 1, node_at m l j (i - 1))) None)
    (cond (dir == 2) (cond (nat_lt (j + 1) (length m.ys)) (Some (Step 2, node_at m l (j + 1) i)) None)
    (cond (nat_lt 0 j) (Some (Step 3, node_at m l (j - 1) i)) None))
    (λ b. either P (nat_lt 0 i) (Some (Step 1, node_at m l j (i - 1))) None
    (λ k. go j (i - 1) jb (under i (length m.xs) ib) (fewer i) (same j)) (λ k. tt))
    (λ b. either P (dir == 2) (cond (nat_lt (j + 1) (length m.ys)) (Some (Step 2, node_at m l (j + 1) i)) None)
    (cond (nat_lt 0 j) (Some (Step 3, node_at m l (j - 1) i)) None)
    (λ e. either P (nat_lt (j + 1) (length m.ys)) (Some (Step 2, node_at m l (j + 1) i)) None
    (λ k. go (j + 1) i (ltb-true (j + 1) (length m.ys) k) ib (same i) (more j)) (λ k. tt))
    (λ e. either P (nat_lt 0 j) (Some (Step 3, node_at m l (j - 1) i)) None
    (λ k. go (j - 1) i (under j (length m.ys) jb) ib (same i) (fewer j)) (λ k. tt))))
  where
    under : (a b : ℕ) → a < b → a - 1 < b
    under a b k = omega arith

    same : (a : ℕ) → (a ≤ a + 1) × (a ≤ a + 1)
    same a = (omega arith, omega arith)

    more : (a : ℕ) → (a + 1 ≤ a + 1) × (a ≤ (a + 1) + 1)
    more a = (omega arith, omega arith)

    fewer : (a : ℕ) → (a - 1 ≤ a + 1) × (a ≤ (a - 1) + 1)
    fewer a = (omega arith, omega arith)

module _ (d : Design) (m : Mesh) (g : ℕ) (b : Item) (f : Extent) (reach grow : ℕ) (w : Window) (s : IsSound d)
    (fits : FitsDesign d m) (rules : HasRulesWithin reach d) (of_b : IsExtentOf b.pieces f)
    (enough : 2 * reach + width_for d g + f.width + 1 ≤ 2 * grow) (window : IsWindowFor m f.bounds grow w) (v : ℕ)
    (hv : v < node_count m) where
  -- a step from a node off the window is clear
  step_clear : (to : ℕ) → to < node_count m → IsBeside m v to → IsOff m w v
      → IsClearOf d g (probe.Step (layer_of m v) (width_for d g) (point_of m v) (point_of m to)) b
  step_clear to ht near (inl (inl h)) = left_clear reach d g b f rules of_b (layer_of m v) (width_for d g)
      (width_small d g s) (point_of m v) (point_of m to) grow enough (point_within d m v fits hv)
      (point_within d m to fits ht)
      (window.left (column m v) (omega (arith, h)))
      (window.left (column m to) (let k = near.columns.0 in omega (arith, h, k)))
  step_clear to ht near (inl (inr h)) = right_clear reach d g b f rules of_b (layer_of m v) (width_for d g)
      (width_small d g s) (point_of m v) (point_of m to) grow enough (point_within d m v fits hv)
      (point_within d m to fits ht)
      (window.right (column m v) (omega (arith, h)) (column_below m v hv))
      (window.right (column m to) (let k = near.columns.1 in omega (arith, h, k)) (column_below m to ht))
  step_clear to ht near (inr (inl h)) = below_clear reach d g b f rules of_b (layer_of m v) (width_for d g)
      (width_small d g s) (point_of m v) (point_of m to) grow enough (point_within d m v fits hv)
      (point_within d m to fits ht)
      (window.bottom (row m v) (omega (arith, h)))
      (window.bottom (row m to) (let k = near.rows.0 in omega (arith, h, k)))
  step_clear to ht near (inr (inr h)) = above_clear reach d g b f rules of_b (layer_of m v) (width_for d g)
      (width_small d g s) (point_of m v) (point_of m to) grow enough (point_within d m v fits hv)
      (point_within d m to fits ht)
      (window.top (row m v) (omega (arith, h)) (row_below (length m.xs) (length m.ys) (length m.layers) v hv))
      (window.top (row m to) (let k = near.rows.1 in
      omega (arith, h, k)) (row_below (length m.xs) (length m.ys) (length m.layers) to ht))

  -- so is what such a move lays
  mapped_clear : (o : Option (Move × ℕ)) (p : Probe) → ((mv : Move) (to : ℕ) → o ≡ Some (mv, to) → to < node_count m)
      → IsStepBeside m v o → IsOff m w v
      → option_map (λ (x : Move × ℕ). probe_of d m g v x.0 x.1) o ≡ Some p → IsClearOf d g p b
  mapped_clear None p leads near off e = absurd (never p e)
    where
      never : (p : Probe) → ◌≡◌ {A = Option Probe} None (Some p) → ⊥
      never p e = cc
  mapped_clear (Some (Step dir, to)) p leads near off e =
      subst (λ (q : Probe). IsClearOf d g q b)
      (some_is (probe.Step (layer_of m v) (width_for d g) (point_of m v) (point_of m to)) p e)
      (step_clear to (leads (Step dir) to refl) near off)
    where
      some_is : (x y : Probe) → Some x ≡ Some y → x ≡ y
      some_is x y e = cc
  mapped_clear (Some (Via padstack layer, to)) p leads near off e = absurd near

-- the first four moves are steps
at_step : (d : Design) (m : Mesh) (g v i : ℕ) → i < 4 → v < node_count m → IsStepBeside m v (way d m g v i)
at_step d m g v i h hv = either (IsStepBeside m v) (nat_lt i 4) (step_at m v i)
    (via_at d m v (slice_index (vias_of d g) ((i - 4) / length m.layers)) ((i - 4) % length m.layers))
    (λ e. step_beside m v i hv) (λ e. absurd (not_so i h e))
  where
    not_so : (i : ℕ) → i < 4 → nat_lt i 4 ≡ false → ⊥
    not_so i h e = let k = ltb-false i 4 e in omega (arith, h, k)

-- steps off the window are clear
pub off_clear : StepsOffAreClear
off_clear d m g b f reach grow w s fits rules of_b enough window v i p hv hi off e =
    mapped_clear d m g b f reach grow w s fits rules of_b enough window v hv (way d m g v i) p
    (λ mv to k. way_leads d m g v i mv to hv k) (at_step d m g v i hi hv) off e
