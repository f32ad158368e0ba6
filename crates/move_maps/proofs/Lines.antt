-- The lines and levels of nodes, and what of them lies out of a window.
use Rattle.std.proofs.Common.{◌≡◌, ℕ, ◌+◌, ◌-◌, ◌*◌, ◌/◌, ◌%◌, ◌<◌, ◌≤◌, ◌^◌, List, length, refl, sym, ap, ◌∙◌}
use Rattle.std.proofs.Common.{subst, arith, ◌⊎◌, inl, inr}
use Rattle.std.proofs.lemmas.Nat.{mul-add-lt, mod-mul-add, div-mul-add, div-add-mod', mod_below}
use Rattle.std.proofs.Math.Nat.{mul-le-mul_right, mul-le-mul_left}
use Rattle.pcb_model.specs.declared.item.Item.{Item}
use Rattle.pcb_model.specs.declared.design.Design.{Design}
use Rattle.route_lattice.specs.Mesh.{Mesh, node_count, column, row}
use Rattle.route_lattice.specs.Ways.{way_count}
use Rattle.route_lattice.specs.Legal.{probe_at}
use Rattle.route_lattice.proofs.Places.{width_positive}
use Rattle.move_maps.specs.declared.window.Window.{Window}
use Rattle.move_maps.specs.declared.brush.Stroke.{Stroke}
use Rattle.move_maps.specs.Paint.{IsClearAt, Covers, IsWindowIn, Paints}
use Rattle.move_maps.proofs.Painting.{from_node, to_node, off, goes_on}

-- the place of a number in its block of w
pub within_block : (w f v : ℕ) → f * w ≤ v → v < f * w + w → v % w ≡ v - f * w
within_block w f v l h =
    let e : v ≡ f * w + (v - f * w) = omega (arith, l) in
    let k : v - f * w < w = omega (arith, l, h) in
    ap (λ n. n % w) e ∙ mod-mul-add f w (v - f * w) k

-- and the number of the block
block_of : (w f v : ℕ) → f * w ≤ v → v < f * w + w → v / w ≡ f
block_of w f v l h =
    let e : v ≡ f * w + (v - f * w) = omega (arith, l) in
    let k : v - f * w < w = omega (arith, l, h) in
    ap (λ n. n / w) e ∙ div-mul-add f w (v - f * w) k

-- the line of a node is from one on where the node is from the line's first on
pub line_from : (w f v : ℕ) → 0 < w → f * w ≤ v → f ≤ v / w
line_from w f v p l = from_node f w (v / w) (v % w) (mod_below v w p)
    (subst (λ n. f * w ≤ n) (sym (div-add-mod' v w)) l)

-- a node below a line's first is on a line before
pub line_to : (w t v : ℕ) → v < t * w → v / w < t
line_to w t v l = to_node t w (v / w) (v % w) (subst (λ n. n < t * w) (sym (div-add-mod' v w)) l)

-- the moves of a line's nodes are clear of the item left of a column, and from another on
pub record AreSidesClear (d : Design) (m : Mesh) (g : ℕ) (b : Item) (line left right : ℕ) : Type 0 where
  pub each : (v i : ℕ) → v < node_count m → i < way_count d m g → v / length m.xs ≡ line
      → column m v < left ⊎ right ≤ column m v → IsClearAt d g b (probe_at d m g v i)

-- the sides of a line
module _ (stroke : Stroke) (d : Design) (m : Mesh) (g : ℕ) (b : Item) (line left right : ℕ)
    (sides : AreSidesClear d m g b line left right) (ordered : left ≤ right) (within : right ≤ length m.xs)
    (inner : line < length m.layers * length m.ys) where
  -- the columns on the left
  pub left_of : (xs : List ℕ) → Paints stroke d m g b (line * length m.xs * way_count d m g)
      ((line * length m.xs + left) * way_count d m g) xs xs
  left_of xs = off stroke d m g b (line * length m.xs * way_count d m g)
      ((line * length m.xs + left) * way_count d m g) xs (λ v i k l u.
      let lo = from_node (line * length m.xs) (way_count d m g) v i k l in
      let hi = to_node (line * length m.xs + left) (way_count d m g) v i u in
      let left_in : left ≤ length m.xs = omega (arith, ordered, within) in
      let top = mul-le-mul_right (length m.xs) (next line (length m.layers * length m.ys) inner) in
      let over : v < line * length m.xs + length m.xs = omega (arith, hi, left_in) in
      sides.each v i (ends line (length m.xs) v (length m.layers * length m.ys * length m.xs) left hi left_in top) k
      (block_of (length m.xs) line v lo over)
      (inl (low (v % length m.xs) v (line * length m.xs) left (within_block (length m.xs) line v lo over) lo hi)))
    where
      next : (x y : ℕ) → x < y → x + 1 ≤ y
      next x y h = omega (arith, h)

      ends : (line n v count left : ℕ) → v < line * n + left → left ≤ n → (line + 1) * n ≤ count → v < count
      ends line n v count left h k t = omega (arith, h, k, t)

      low : (c v f left : ℕ) → c ≡ v - f → f ≤ v → v < f + left → c < left
      low c v f left e l h = omega (arith, e, l, h)

  -- the columns on the right
  right_of : (xs : List ℕ) → Paints stroke d m g b ((line * length m.xs + right) * way_count d m g)
      ((line + 1) * length m.xs * way_count d m g) xs xs
  right_of xs = off stroke d m g b ((line * length m.xs + right) * way_count d m g)
      ((line + 1) * length m.xs * way_count d m g) xs (λ v i k l u.
      let lo = from_node (line * length m.xs + right) (way_count d m g) v i k l in
      let hi = to_node ((line + 1) * length m.xs) (way_count d m g) v i u in
      let top = mul-le-mul_right (length m.xs) (next line (length m.layers * length m.ys) inner) in
      let from = under line (length m.xs) right v lo in
      let to = over line (length m.xs) v hi in
      sides.each v i (ends v ((line + 1) * length m.xs) (length m.layers * length m.ys * length m.xs) hi top) k
      (block_of (length m.xs) line v from to)
      (inr (high (v % length m.xs) v (line * length m.xs) right (within_block (length m.xs) line v from to) lo)))
    where
      next : (x y : ℕ) → x < y → x + 1 ≤ y
      next x y h = omega (arith, h)

      under : (line n right v : ℕ) → line * n + right ≤ v → line * n ≤ v
      under line n right v l = omega (arith, l)

      over : (line n v : ℕ) → v < (line + 1) * n → v < line * n + n
      over line n v l = omega (arith, l)

      ends : (v t count : ℕ) → v < t → t ≤ count → v < count
      ends v t count h k = omega (arith, h, k)

      high : (c v f right : ℕ) → c ≡ v - f → f + right ≤ v → right ≤ c
      high c v f right e l = omega (arith, e, l)

  -- the columns on the right need no paint
  pub line_end : (col : ℕ) (xs ys : List ℕ) → col ≡ right
      → Paints stroke d m g b (line * length m.xs * way_count d m g)
      ((line * length m.xs + col) * way_count d m g) xs ys
      → Paints stroke d m g b (line * length m.xs * way_count d m g) ((line + 1) * length m.xs * way_count d m g) xs ys
  line_end col xs ys e p =
      let n = line * length m.xs in let k = way_count d m g in
      goes_on stroke d m g b (n * k) ((n + right) * k) ((line + 1) * length m.xs * k)
      ((line + 1) * length m.xs * k) xs ys ys (mul-le-mul_right k (first n right))
      (mul-le-mul_right k (last line (length m.xs) right within)) refl
      (subst (λ x. Paints stroke d m g b (n * k) ((n + x) * k) xs ys) e p) (right_of ys)
    where
      first : (n r : ℕ) → n ≤ n + r
      first n r = omega arith

      last : (line n r : ℕ) → r ≤ n → line * n + r ≤ (line + 1) * n
      last line n r h = omega (arith, h)

-- the rows beside a window
module _ (stroke : Stroke) (d : Design) (m : Mesh) (g : ℕ) (b : Item) (w : Window) (covers : Covers d m g b w)
    (fits : IsWindowIn m w) (xs : List ℕ) where
  -- the rows below it
  pub below_of : (level : ℕ) → level < length m.layers
      → Paints stroke d m g b (level * length m.ys * length m.xs * way_count d m g)
      ((level * length m.ys + w.bottom) * length m.xs * way_count d m g) xs xs
  below_of level h = off stroke d m g b (level * length m.ys * length m.xs * way_count d m g)
      ((level * length m.ys + w.bottom) * length m.xs * way_count d m g) xs (λ v i k l u.
      let lo = from_node (level * length m.ys * length m.xs) (way_count d m g) v i k l in
      let hi = to_node ((level * length m.ys + w.bottom) * length m.xs) (way_count d m g) v i u in
      let low_line = line_from (length m.xs) (level * length m.ys) v
      (width_positive (length m.xs) (level * length m.ys + w.bottom) v hi) lo in
      let high_line = line_to (length m.xs) (level * length m.ys + w.bottom) v hi in
      let bottom_in : w.bottom ≤ length m.ys = omega (arith, fits.rows, fits.top) in
      let top = mul-le-mul_right (length m.ys) (next level (length m.layers) h) in
      let all = mul-le-mul_right (length m.xs)
      (lines level (length m.ys) w.bottom (length m.layers * length m.ys) bottom_in top) in
      let is = within_block (length m.ys) level (v / length m.xs) low_line (omega (arith, high_line, bottom_in)) in
      covers.each v i (ends v ((level * length m.ys + w.bottom) * length m.xs)
      (length m.layers * length m.ys * length m.xs) hi all) k
      (inr (inl (low (v / length m.xs % length m.ys) (v / length m.xs)
      (level * length m.ys) w.bottom is low_line high_line))))
    where
      next : (x y : ℕ) → x < y → x + 1 ≤ y
      next x y h = omega (arith, h)

      lines : (level n bottom count : ℕ) → bottom ≤ n → (level + 1) * n ≤ count → level * n + bottom ≤ count
      lines level n bottom count k t = omega (arith, k, t)

      ends : (v t count : ℕ) → v < t → t ≤ count → v < count
      ends v t count h k = omega (arith, h, k)

      low : (c v f left : ℕ) → c ≡ v - f → f ≤ v → v < f + left → c < left
      low c v f left e l h = omega (arith, e, l, h)

  -- the rows above it
  pub above_of : (level : ℕ) → level < length m.layers
      → Paints stroke d m g b ((level * length m.ys + w.top) * length m.xs * way_count d m g)
      ((level + 1) * length m.ys * length m.xs * way_count d m g) xs xs
  above_of level h = off stroke d m g b ((level * length m.ys + w.top) * length m.xs * way_count d m g)
      ((level + 1) * length m.ys * length m.xs * way_count d m g) xs (λ v i k l u.
      let lo = from_node ((level * length m.ys + w.top) * length m.xs) (way_count d m g) v i k l in
      let hi = to_node ((level + 1) * length m.ys * length m.xs) (way_count d m g) v i u in
      let low_line = line_from (length m.xs) (level * length m.ys + w.top) v
      (width_positive (length m.xs) ((level + 1) * length m.ys) v hi) lo in
      let high_line = line_to (length m.xs) ((level + 1) * length m.ys) v hi in
      let top = mul-le-mul_right (length m.ys) (next level (length m.layers) h) in
      let all = mul-le-mul_right (length m.xs) top in
      let is = within_block (length m.ys) level (v / length m.xs)
      (under level (length m.ys) w.top (v / length m.xs) low_line)
      (over level (length m.ys) (v / length m.xs) high_line) in
      covers.each v i (ends v ((level + 1) * length m.ys * length m.xs)
      (length m.layers * length m.ys * length m.xs) hi all) k
      (inr (inr (high (v / length m.xs % length m.ys) (v / length m.xs) (level * length m.ys) w.top is low_line))))
    where
      next : (x y : ℕ) → x < y → x + 1 ≤ y
      next x y h = omega (arith, h)

      under : (line n right v : ℕ) → line * n + right ≤ v → line * n ≤ v
      under line n right v l = omega (arith, l)

      over : (line n v : ℕ) → v < (line + 1) * n → v < line * n + n
      over line n v l = omega (arith, l)

      ends : (v t count : ℕ) → v < t → t ≤ count → v < count
      ends v t count h k = omega (arith, h, k)

      high : (c v f right : ℕ) → c ≡ v - f → f + right ≤ v → right ≤ c
      high c v f right e l = omega (arith, e, l)

  -- ---- on and on
  -- equal factors keep an order
  up : (x y k : ℕ) → x ≤ y → x * k ≤ y * k
  up x y k h = mul-le-mul_right k h

  -- the next node of a line is painted
  pub line_next : (line col : ℕ) (ys zs : List ℕ)
      → Paints stroke d m g b (line * length m.xs * way_count d m g)
      ((line * length m.xs + col) * way_count d m g) xs ys
      → Paints stroke d m g b ((line * length m.xs + col) * way_count d m g)
      ((line * length m.xs + col + 1) * way_count d m g) ys zs
      → Paints stroke d m g b (line * length m.xs * way_count d m g)
      ((line * length m.xs + (col + 1)) * way_count d m g) xs zs
  line_next line col ys zs p q =
      let n = line * length m.xs in let k = way_count d m g in
      goes_on stroke d m g b (n * k) ((n + col) * k) ((n + col + 1) * k) ((n + (col + 1)) * k) xs ys zs
      (up n (n + col) k (omega arith)) (up (n + col) (n + col + 1) k (omega arith)) (ap (λ x. x * k) (eq n col)) p q
    where
      eq : (n col : ℕ) → n + col + 1 ≡ n + (col + 1)
      eq n col = omega arith

  -- the next line of a level is painted
  pub level_next : (level row : ℕ) (ys zs : List ℕ)
      → Paints stroke d m g b (level * length m.ys * length m.xs * way_count d m g)
      ((level * length m.ys + row) * length m.xs * way_count d m g) xs ys
      → Paints stroke d m g b ((level * length m.ys + row) * length m.xs * way_count d m g)
      ((level * length m.ys + row + 1) * length m.xs * way_count d m g) ys zs
      → Paints stroke d m g b (level * length m.ys * length m.xs * way_count d m g)
      ((level * length m.ys + (row + 1)) * length m.xs * way_count d m g) xs zs
  level_next level row ys zs p q =
      let n = level * length m.ys in let w = length m.xs in let k = way_count d m g in
      goes_on stroke d m g b (n * w * k) ((n + row) * w * k) ((n + row + 1) * w * k) ((n + (row + 1)) * w * k) xs ys zs
      (up (n * w) ((n + row) * w) k (up n (n + row) w (omega arith)))
      (up ((n + row) * w) ((n + row + 1) * w) k (up (n + row) (n + row + 1) w (omega arith)))
      (ap (λ x. x * w * k) (eq n row)) p q
    where
      eq : (n col : ℕ) → n + col + 1 ≡ n + (col + 1)
      eq n col = omega arith

  -- the next level is painted
  pub all_next : (level : ℕ) (ys zs : List ℕ)
      → Paints stroke d m g b 0 (level * length m.ys * length m.xs * way_count d m g) xs ys
      → Paints stroke d m g b (level * length m.ys * length m.xs * way_count d m g)
      ((level + 1) * length m.ys * length m.xs * way_count d m g) ys zs
      → Paints stroke d m g b 0 ((level + 1) * length m.ys * length m.xs * way_count d m g) xs zs
  all_next level ys zs p q =
      let h = length m.ys in let w = length m.xs in let k = way_count d m g in
      goes_on stroke d m g b 0 (level * h * w * k) ((level + 1) * h * w * k) ((level + 1) * h * w * k) xs ys zs
      (low (level * h * w * k))
      (up (level * h * w) ((level + 1) * h * w) k
      (up (level * h) ((level + 1) * h) w (up level (level + 1) h (omega arith)))) refl p q
    where
      low : (n : ℕ) → 0 ≤ n
      low n = omega arith

-- the ends of levels
module _ (stroke : Stroke) (d : Design) (m : Mesh) (g : ℕ) (b : Item) (w : Window) (covers : Covers d m g b w)
    (fits : IsWindowIn m w) (xs ys : List ℕ) where
  -- the lines above the window need no paint
  pub level_end : (level row : ℕ) → level < length m.layers → row ≡ w.top
      → Paints stroke d m g b (level * length m.ys * length m.xs * way_count d m g)
      ((level * length m.ys + row) * length m.xs * way_count d m g) xs ys
      → Paints stroke d m g b (level * length m.ys * length m.xs * way_count d m g)
      ((level + 1) * length m.ys * length m.xs * way_count d m g) xs ys
  level_end level row h e p =
      let n = level * length m.ys in let c = length m.xs in let k = way_count d m g in
      let f = fits.top in
      goes_on stroke d m g b (n * c * k) ((n + w.top) * c * k) ((level + 1) * length m.ys * c * k)
      ((level + 1) * length m.ys * c * k) xs ys ys (mul-le-mul_right k (mul-le-mul_right c (first n w.top)))
      (mul-le-mul_right k (mul-le-mul_right c (last level (length m.ys) w.top f))) refl
      (subst (λ x. Paints stroke d m g b (n * c * k) ((n + x) * c * k) xs ys) e p)
      (above_of stroke d m g b w covers fits ys level h)
    where
      first : (n r : ℕ) → n ≤ n + r
      first n r = omega arith

      last : (line n r : ℕ) → r ≤ n → line * n + r ≤ (line + 1) * n
      last line n r h = omega (arith, h)

-- ---- numbers that are small where the lattice is
-- a node's number is small
pub node_small : (n count line w col : ℕ) → count ≡ n * w → count ≤ 2 ^ 24 → line < n → col < w
    → (line * w + col < count) × (line * w + col ≤ 2 ^ 24)
node_small n count line w col e s h k =
    let l = mul-add-lt line w col n h k in (omega (arith, l, e), omega (arith, l, e, s))

-- so is a line's number
pub row_small : (layers h w level row : ℕ) → 0 < layers * h * w → layers * h * w ≤ 2 ^ 24 → level < layers → row < h
    → (level * h + row < layers * h) × (level * h + row ≤ 2 ^ 24)
row_small layers h w level row p s l r =
    let a = mul-add-lt level h row layers l r in
    let b = width_positive w (layers * h) 0 p in
    let c = mul-le-mul_left (layers * h) b in
    (omega (arith, a), omega (arith, a, c, s))

-- and a node's number, as it is computed from its level, row and column
pub place_small : (layers h w level row col y x : ℕ) → y ≡ h → x ≡ w → 0 < layers * h * w → layers * h * w ≤ 2 ^ 24
    → level < layers → row < h → col < w
    → ((level * y + row) * x + col < layers * h * w) × ((level * y + row) * x + col ≤ 2 ^ 24)
place_small layers h w level row col y x ey ex p s l r c =
    let n = layers * h * w in
    subst (λ k. ((level * k + row) * x + col < n) × ((level * k + row) * x + col ≤ 2 ^ 24)) (sym ey)
    (subst (λ k. ((level * h + row) * k + col < n) × ((level * h + row) * k + col ≤ 2 ^ 24)) (sym ex)
    (node_small (layers * h) n (level * h + row) w col refl s (row_small layers h w level row p s l r).0 c))
