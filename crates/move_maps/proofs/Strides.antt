-- Where a step leads that is there, and the gap that it crosses.
use Rattle.std.proofs.Common.{◌≡◌, ℕ, ℤ, pos, ◌+◌, ◌-◌, ◌*◌, ◌/◌, ◌%◌, ◌<◌, ◌-ℤ◌, Bool, true, false, cond}
use Rattle.std.proofs.Common.{ltb-true, List, length, Some, None, refl, sym, ap, ◌∙◌, subst, arith}
use Rattle.std.proofs.Common.{slice_index_or}
use Rattle.std.specs.Prelude.{nat_lt, unsigned_abs}
use Rattle.std.proofs.lemmas.Int.{ints}
use Rattle.std.proofs.lemmas.Nat.{mod-mul-add, div-mul-add}
use Rattle.route_lattice.specs.declared.moves.Move.{Move}
use Rattle.route_lattice.specs.declared.moves.Move.TheVariants.{Step}
use Rattle.route_lattice.specs.Mesh.{Mesh, node_count, node_at, column, row, level, point_of}
use Rattle.route_lattice.specs.Ways.{step_at}
use Rattle.route_lattice.specs.Legal.{way_between, way_price}
use Rattle.route_lattice.proofs.Places.{right, left, above, below, row_below}
use Rattle.route_lattice.proofs.Windows.{column_below}

-- a choice that gives something took its first branch
taken : (b : Bool) (x w : Move × ℕ) → cond b (Some x) None ≡ Some w → (b ≡ true) × (x ≡ w)
taken true x w e = (refl, inner x w e)
  where
    inner : (x w : Move × ℕ) → Some x ≡ Some w → x ≡ w
    inner x w e = cc
taken false x w e = cc

module _ (m : Mesh) (v : ℕ) (w : Move × ℕ) where
  -- the step to greater x
  pub right_is : step_at m v 0 ≡ Some w → (column m v + 1 < length m.xs) × ((Step 0, v + 1) ≡ w)
  right_is e =
      let t = taken (nat_lt (column m v + 1) (length m.xs))
      (Step 0, node_at m (level m v) (row m v) (column m v + 1)) w e in (
        ltb-true (column m v + 1) (length m.xs) t.0,
        ap (λ (n : ℕ). (Step 0, n)) (sym (right (length m.xs) (length m.ys) v)) ∙ t.1,
      )

  -- to lesser x
  pub left_is : step_at m v 1 ≡ Some w → (0 < column m v) × ((Step 1, v - 1) ≡ w)
  left_is e =
      let t = taken (nat_lt 0 (column m v)) (Step 1, node_at m (level m v) (row m v) (column m v - 1)) w e in
      let k = ltb-true 0 (column m v) t.0 in
      (k, ap (λ (n : ℕ). (Step 1, n)) (sym (left (length m.xs) (length m.ys) v k)) ∙ t.1)

  -- to greater y
  pub above_is : step_at m v 2 ≡ Some w → (row m v + 1 < length m.ys) × ((Step 2, v + length m.xs) ≡ w)
  above_is e =
      let t = taken (nat_lt (row m v + 1) (length m.ys))
      (Step 2, node_at m (level m v) (row m v + 1) (column m v)) w e in (
        ltb-true (row m v + 1) (length m.ys) t.0,
        ap (λ (n : ℕ). (Step 2, n)) (sym (above (length m.xs) (length m.ys) v)) ∙ t.1,
      )

  -- to lesser y
  pub below_is : step_at m v 3 ≡ Some w → (0 < row m v) × ((Step 3, v - length m.xs) ≡ w)
  below_is e =
      let t = taken (nat_lt 0 (row m v)) (Step 3, node_at m (level m v) (row m v - 1) (column m v)) w e in
      let k = ltb-true 0 (row m v) t.0 in
      (k, ap (λ (n : ℕ). (Step 3, n)) (sym (below (length m.xs) (length m.ys) v k)) ∙ t.1)

-- ---- prices
-- the column of the node at three places
pub column_at : (m : Mesh) (l j i : ℕ) → i < length m.xs → column m (node_at m l j i) ≡ i
column_at m l j i h = mod-mul-add (l * length m.ys + j) (length m.xs) i h

-- and its row
pub row_at : (m : Mesh) (l j i : ℕ) → j < length m.ys → i < length m.xs → row m (node_at m l j i) ≡ j
row_at m l j i k h = ap (λ n. n % length m.ys) (div-mul-add (l * length m.ys + j) (length m.xs) i h)
    ∙ mod-mul-add l (length m.ys) j k

-- the gap between two lines
abbrev pub gap_between : List ℤ → ℕ → ℕ → ℕ
gap_between lines i k = unsigned_abs (slice_index_or lines k (pos 0) -ℤ slice_index_or lines i (pos 0))

-- no gap between a line and itself
no_gap : (z : ℤ) (n : ℕ) → n + unsigned_abs (z -ℤ z) ≡ n
no_gap z n = omega (arith, ints)

-- no gap and one
one_gap : (z : ℤ) (n : ℕ) → unsigned_abs (z -ℤ z) + n ≡ n
one_gap z n = omega (arith, ints)

module _ (m : Mesh) (v to i j : ℕ) (hv : v < node_count m) (at : to ≡ node_at m (level m v) j i) (hj : j < length m.ys)
    (hi : i < length m.xs) where
  -- the column and the row that are led to
  to_column : column m to ≡ i
  to_column = ap (λ n. column m n) at ∙ column_at m (level m v) j i hi

  to_row : row m to ≡ j
  to_row = ap (λ n. row m n) at ∙ row_at m (level m v) j i hj hi

  -- along x the way between is the gap of the columns
  pub along_x : j ≡ row m v → gap_between m.xs (column m v) i ≡ way_between (point_of m v) (point_of m to)
  along_x e = sym
      (ap (λ n. gap_between m.xs (column m v) n + gap_between m.ys (row m v) (row m to)) to_column
      ∙ ap (λ n. gap_between m.xs (column m v) i + gap_between m.ys (row m v) n) (to_row ∙ e)
      ∙ no_gap (slice_index_or m.ys (row m v) (pos 0)) (gap_between m.xs (column m v) i))

  -- along y that of the rows
  pub along_y : i ≡ column m v → gap_between m.ys (row m v) j ≡ way_between (point_of m v) (point_of m to)
  along_y e = sym
      (ap (λ n. gap_between m.xs (column m v) n + gap_between m.ys (row m v) (row m to)) (to_column ∙ e)
      ∙ ap (λ n. gap_between m.xs (column m v) (column m v) + gap_between m.ys (row m v) n) to_row
      ∙ one_gap (slice_index_or m.xs (column m v) (pos 0)) (gap_between m.ys (row m v) j))

module _ (m : Mesh) (v cost : ℕ) (w : Move × ℕ) (hv : v < node_count m) where
  -- the row and the column of a node are those of lines
  row_in : row m v < length m.ys
  row_in = row_below (length m.xs) (length m.ys) (length m.layers) v hv

  less : (a b : ℕ) → a < b → a - 1 < b
  less a b h = omega (arith, h)

  -- what a step to greater x costs
  pub right_price : step_at m v 0 ≡ Some w
      → gap_between m.xs (column m v) (column m v + 1) ≡ way_price m cost v (Some w)
  right_price e =
      let k = right_is m v w e in
      subst (λ (u : Move × ℕ). gap_between m.xs (column m v) (column m v + 1) ≡ way_price m cost v (Some u)) k.1
      (along_x m v (v + 1) (column m v + 1) (row m v) hv (sym (right (length m.xs) (length m.ys) v)) row_in k.0 refl)

  -- to lesser x
  pub left_price : step_at m v 1 ≡ Some w → gap_between m.xs (column m v) (column m v - 1) ≡ way_price m cost v (Some w)
  left_price e =
      let k = left_is m v w e in
      subst (λ (u : Move × ℕ). gap_between m.xs (column m v) (column m v - 1) ≡ way_price m cost v (Some u)) k.1
      (along_x m v (v - 1) (column m v - 1) (row m v) hv (sym (left (length m.xs) (length m.ys) v k.0)) row_in
      (less (column m v) (length m.xs) (column_below m v hv)) refl)

  -- to greater y
  pub above_price : step_at m v 2 ≡ Some w → gap_between m.ys (row m v) (row m v + 1) ≡ way_price m cost v (Some w)
  above_price e =
      let k = above_is m v w e in
      subst (λ (u : Move × ℕ). gap_between m.ys (row m v) (row m v + 1) ≡ way_price m cost v (Some u)) k.1
      (along_y m v (v + length m.xs) (column m v) (row m v + 1) hv (sym (above (length m.xs) (length m.ys) v)) k.0
      (column_below m v hv) refl)

  -- to lesser y
  pub below_price : step_at m v 3 ≡ Some w → gap_between m.ys (row m v) (row m v - 1) ≡ way_price m cost v (Some w)
  below_price e =
      let k = below_is m v w e in
      subst (λ (u : Move × ℕ). gap_between m.ys (row m v) (row m v - 1) ≡ way_price m cost v (Some u)) k.1
      (along_y m v (v - length m.xs) (column m v) (row m v - 1) hv (sym (below (length m.xs) (length m.ys) v k.0))
      (less (row m v) (length m.ys) row_in) (column_below m v hv) refl)

-- ---- prices as the code takes them, over copies of the lines
module _ (m : Mesh) (v cost r : ℕ) (w : Move × ℕ) (hv : v < node_count m) where
  -- the gap from a node's column to a place, if both are there
  abbrev Across : (ℕ → ℕ) → List ℤ → Type 0
  Across to xs = v % length xs < length xs → to (v % length xs) < length xs
      → r ≡ gap_between xs (v % length xs) (to (v % length xs))

  -- the gap from its row
  abbrev Up : (ℕ → ℕ) → List ℤ → List ℤ → Type 0
  Up to xs ys = v / length xs % length ys < length ys → to (v / length xs % length ys) < length ys
      → r ≡ gap_between ys (v / length xs % length ys) (to (v / length xs % length ys))

  module _ (xs : List ℤ) (e : xs ≡ m.xs) where
    -- to greater x
    pub priced_right : Across (λ i. i + 1) xs → step_at m v 0 ≡ Some w → r ≡ way_price m cost v (Some w)
    priced_right f s = subst (Across (λ i. i + 1)) e f (column_below m v hv) (right_is m v w s).0
        ∙ right_price m v cost w hv s

    -- to lesser x
    pub priced_left : Across (λ i. i - 1) xs → step_at m v 1 ≡ Some w → r ≡ way_price m cost v (Some w)
    priced_left f s = subst (Across (λ i. i - 1)) e f (column_below m v hv)
        (under (column m v) (length m.xs) (column_below m v hv)) ∙ left_price m v cost w hv s
      where
        under : (a b : ℕ) → a < b → a - 1 < b
        under a b h = omega (arith, h)

    module _ (ys : List ℤ) (e2 : ys ≡ m.ys) where
      -- the same over the lattice's own lines
      own_lines : (to : ℕ → ℕ) → Up to xs ys → Up to m.xs m.ys
      own_lines to f = subst (λ (zs : List ℤ). Up to m.xs zs) e2 (subst (λ (zs : List ℤ). Up to zs ys) e f)

      -- to greater y
      pub priced_above : Up (λ j. j + 1) xs ys → step_at m v 2 ≡ Some w → r ≡ way_price m cost v (Some w)
      priced_above f s = own_lines (λ j. j + 1) f
          (row_below (length m.xs) (length m.ys) (length m.layers) v hv) (above_is m v w s).0
          ∙ above_price m v cost w hv s

      -- to lesser y
      pub priced_below : Up (λ j. j - 1) xs ys → step_at m v 3 ≡ Some w → r ≡ way_price m cost v (Some w)
      priced_below f s = own_lines (λ j. j - 1) f
          (row_below (length m.xs) (length m.ys) (length m.layers) v hv)
          (under (row m v) (length m.ys) (row_below (length m.xs) (length m.ys) (length m.layers) v hv))
          ∙ below_price m v cost w hv s
        where
          under : (a b : ℕ) → a < b → a - 1 < b
          under a b h = omega (arith, h)
