-- The numbers that a step computes at a node, for the counts w of x lines and h of y lines.
use Rattle.std.proofs.Common.{◌≡◌, ℕ, ◌<◌, ◌≤◌, ◌+◌, ◌-◌, ◌*◌, ◌/◌, ◌%◌, ◌^◌, List, length}
use Rattle.std.proofs.Common.{arith, ap, ap₂, ◌∙◌, sym, subst}
use Rattle.std.proofs.Common.{Bool, true, false, cond, refl, true≢false, Some, None, lt-ltb, le-ltb}
use Rattle.std.specs.Prelude.{nat_lt}
use Rattle.std.proofs.lemmas.Nat.{div-add-mod', mod_below, div_below}
use Rattle.std.proofs.Math.Nat.{mul-le-mul_right}
use Rattle.route_lattice.specs.declared.moves.Move.TheVariants.{Step}
use Rattle.route_lattice.specs.Mesh.{Mesh, node_count, node_at, column, row, level}
use Rattle.route_lattice.specs.Ways.{step_at}
use Rattle.route_lattice.proofs.Places.{width_positive, level_below, node_below, right, left, above, below}

pub size : {X : Type 0} (w : ℕ) (xs ys : List X) → w ≡ length xs → xs ≡ ys → w ≡ length ys
size w xs ys e f = e ∙ ap (λ zs. length zs) f

pub some_below : (a b v : ℕ) → v < a * b → 0 < a
some_below a b v k = width_positive a b v (omega (arith, k))

pub mod_le : (v w : ℕ) → v % w ≤ v
mod_le v w = let e = div-add-mod' v w in omega (arith, e)

pub div_le : (v w : ℕ) → 0 < w → v / w ≤ v
div_le v w h =
    let e = div-add-mod' v w in
    let one : 1 ≤ w = omega (arith, h) in
    by (v / w * w) (mul-le-mul_left' one) e
  where
    mul-le-mul_left' : 1 ≤ w → v / w ≤ v / w * w
    mul-le-mul_left' k = let m = mul-le-mul_right (v / w) k in omega (arith, m)

    by : (p : ℕ) → v / w ≤ p → p + v % w ≡ v → v / w ≤ v
    by p a e = omega (arith, a, e)

module _ (m : Mesh) (v w h : ℕ) (ew : w ≡ length m.xs) (eh : h ≡ length m.ys) (there : v < node_count m) where
  counted : v < length m.layers * h * w
  counted = subst (λ n. v < n) (sym (ap₂ (λ a b. length m.layers * b * a) ew eh)) there

  pub some_width : 0 < w
  some_width = width_positive w (length m.layers * h) v counted

  pub some_height : 0 < h
  some_height = width_positive h (length m.layers) (v / w) (div_below v w (length m.layers * h) some_width counted)

  pub column_there : v % w < length m.xs
  column_there = subst (λ n. v % w < n) ew (mod_below v w some_width)

  pub row_there : v / w % h < length m.ys
  row_there = subst (λ n. v / w % h < n) eh (mod_below (v / w) h some_height)

  module _ (few : node_count m ≤ 2 ^ 24) where
    small : v < 2 ^ 24
    small = omega (arith, there, few)

    pub column_short : v % w < 2 ^ 24
    column_short = omega (arith, mod_le v w, small)

    pub row_short : v / w % h < 2 ^ 24
    row_short = omega (arith, mod_le (v / w) h, div_le v w some_width, small)

    all_few : length m.layers * h * w ≤ 2 ^ 24
    all_few = subst (λ n. n ≤ 2 ^ 24) (sym (ap₂ (λ a b. length m.layers * b * a) ew eh)) few

    -- where the row above is one
    pub above_short : v / w % h + 1 < h → v + w < 2 ^ 24
    above_short k =
        let n = length m.layers in
        by (n * h * w) (above w h v)
        (node_below w h n (v / w / h) (v / w % h + 1) (v % w) (level_below w h n v counted) k
        (mod_below v w some_width)) all_few
      where
        by : {a : ℕ} (b : ℕ) → a ≡ v + w → a < b → b ≤ 2 ^ 24 → v + w < 2 ^ 24
        by b e k f = omega (arith, e, k, f)

  -- where the row below is one
  pub below_there : 0 < v / w % h → w ≤ v
  below_there k =
      let some : 1 ≤ v / w = omega (arith, k, mod_le (v / w) h) in
      by (v / w * w) (v % w) (mul-le-mul_right w some) (div-add-mod' v w)
    where
      by : (p q : ℕ) → 1 * w ≤ p → p + q ≡ v → w ≤ v
      by p q a e = omega (arith, a, e)

-- ---- the step of a direction
pub yes : {X : Type 0} (b : Bool) (x y z : X) → b ≡ true → x ≡ z → cond b x y ≡ z
yes true x y z e f = f
yes false x y z e f = absurd (true≢false (sym e))

pub no : {X : Type 0} (b : Bool) (x y z : X) → b ≡ false → y ≡ z → cond b x y ≡ z
no true x y z e f = absurd (true≢false e)
no false x y z e f = f

module _ (m : Mesh) (v w h dir : ℕ) (ew : w ≡ length m.xs) (eh : h ≡ length m.ys) where
  abbrev W : ℕ
  W = length m.xs

  abbrev H : ℕ
  H = length m.ys

  row_same : v / w % h ≡ v / W % H
  row_same = ap₂ (λ a b. v / a % b) ew eh

  pub right_step : dir ≡ 0 → v % w + 1 < w → Some (Step 0, v + 1) ≡ step_at m v dir
  right_step e k =
      sym (ap (λ a. step_at m v a) e ∙ yes (nat_lt (v % W + 1) W) (Some (
        Step 0,
        node_at m (level m v) (row m v)
            (column m v + 1),
      )) None (Some (Step 0, v + 1)) (lt-ltb (v % W + 1) W (subst (λ n. v % n + 1 < n) ew k))
      (ap (λ n. Some (Step 0, n)) (right W H v)))

  pub right_none : dir ≡ 0 → w ≤ v % w + 1 → None ≡ step_at m v dir
  right_none e k =
      sym (ap (λ a. step_at m v a) e ∙ no (nat_lt (v % W + 1) W) (Some (
        Step 0,
        node_at m (level m v) (row m v)
            (column m v + 1),
      )) None None (le-ltb (v % W + 1) W (subst (λ n. n ≤ v % n + 1) ew k)) refl)

  pub left_step : dir ≡ 1 → 0 < v % w → Some (Step 1, v - 1) ≡ step_at m v dir
  left_step e k =
      let k' : 0 < v % W = subst (λ n. 0 < v % n) ew k in
      sym (ap (λ a. step_at m v a) e ∙ yes (nat_lt 0 (v % W)) (Some (
        Step 1,
        node_at m (level m v) (row m v)
            (column m v - 1),
      )) None (Some (Step 1, v - 1)) (lt-ltb 0 (v % W) k') (ap (λ n. Some (Step 1, n)) (left W H v k')))

  pub left_none : dir ≡ 1 → v % w ≤ 0 → None ≡ step_at m v dir
  left_none e k =
      sym (ap (λ a. step_at m v a) e ∙ no (nat_lt 0 (v % W)) (Some (
        Step 1,
        node_at m (level m v) (row m v)
            (column m v - 1),
      )) None None (le-ltb 0 (v % W) (subst (λ n. v % n ≤ 0) ew k)) refl)

  pub above_step : dir ≡ 2 → v / w % h + 1 < h → Some (Step 2, v + w) ≡ step_at m v dir
  above_step e k =
      let k' : v / W % H + 1 < H = subst (λ n. n + 1 < H) row_same (subst (λ n. v / w % h + 1 < n) eh k) in
      sym (ap (λ a. step_at m v a) e ∙ yes (nat_lt (v / W % H + 1) H) (Some (
        Step 2,
        node_at m (level m v)
            (row m v + 1) (column m v),
      )) None (Some (Step 2, v + w)) (lt-ltb (v / W % H + 1) H k')
      (ap (λ n. Some (Step 2, n)) (above W H v ∙ ap (λ n. v + n) (sym ew))))

  pub above_none : dir ≡ 2 → h ≤ v / w % h + 1 → None ≡ step_at m v dir
  above_none e k =
      let k' : H ≤ v / W % H + 1 = subst (λ n. H ≤ n + 1) row_same (subst (λ n. n ≤ v / w % h + 1) eh k) in
      sym (ap (λ a. step_at m v a) e ∙ no (nat_lt (v / W % H + 1) H) (Some (
        Step 2,
        node_at m (level m v)
            (row m v + 1) (column m v),
      )) None None (le-ltb (v / W % H + 1) H k') refl)

  pub below_step : dir ≡ 3 → 0 < v / w % h → Some (Step 3, v - w) ≡ step_at m v dir
  below_step e k =
      let k' : 0 < v / W % H = subst (λ n. 0 < n) row_same k in
      sym (ap (λ a. step_at m v a) e ∙ yes (nat_lt 0 (v / W % H)) (Some (
        Step 3,
        node_at m (level m v)
            (row m v - 1) (column m v),
      )) None (Some (Step 3, v - w)) (lt-ltb 0 (v / W % H) k')
      (ap (λ n. Some (Step 3, n)) (below W H v k' ∙ ap (λ n. v - n) (sym ew))))

  pub below_none : dir ≡ 3 → v / w % h ≤ 0 → None ≡ step_at m v dir
  below_none e k =
      sym (ap (λ a. step_at m v a) e ∙ no (nat_lt 0 (v / W % H)) (Some (
        Step 3,
        node_at m (level m v)
            (row m v - 1) (column m v),
      )) None None (le-ltb 0 (v / W % H) (subst (λ n. n ≤ 0) row_same k)) refl)
