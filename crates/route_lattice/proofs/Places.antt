-- The number of a node and its places.
use Rattle.std.proofs.Common.{◌≡◌, ℕ, zero, suc, ◌<◌, ◌+◌, ◌-◌, ◌*◌, ◌/◌, ◌%◌, arith, ap, ◌∙◌, sym, refl}
use Rattle.std.proofs.lemmas.Nat.{div-add-mod', mod_below, mul-add-lt, div_below}

pub back : (w h v : ℕ) → (v / w / h * h + v / w % h) * w + v % w ≡ v
back w h v = ap (λ n. n * w + v % w) (div-add-mod' (v / w) h) ∙ div-add-mod' v w

module _ (w h v : ℕ) where
  l : ℕ
  l = v / w / h

  pub right : (v / w / h * h + v / w % h) * w + (v % w + 1) ≡ v + 1
  right = let e = back w h v in omega (arith, e)

  pub left : 0 < v % w → (v / w / h * h + v / w % h) * w + (v % w - 1) ≡ v - 1
  left k = let e = back w h v in omega (arith, e)

  pub above : (v / w / h * h + (v / w % h + 1)) * w + v % w ≡ v + w
  above = let e = back w h v in omega (arith, e)

  pub below : 0 < v / w % h → (v / w / h * h + (v / w % h - 1)) * w + v % w ≡ v - w
  below k =
      let one : v / w % h ≡ (v / w % h - 1) + 1 = omega arith in
      by (v / w / h * h) (v / w % h - 1) (v % w) v (ap (λ n. (v / w / h * h + n) * w + v % w) (sym one) ∙ back w h v)
    where
      by : (b j i v : ℕ) → (b + (j + 1)) * w + i ≡ v → (b + j) * w + i ≡ v - w
      by b j i v e = omega (arith, e)

-- a node by its places is below the number of nodes
pub node_below : (w h n l j i : ℕ) → l < n → j < h → i < w → (l * h + j) * w + i < n * h * w
node_below w h n l j i hl hj hi = let a = mul-add-lt l h j n hl hj in let b = mul-add-lt (l * h + j) w i (h * n) a hi in
    omega (arith, b)

positive : (m a b : ℕ) → (m ≡ 0 → b ≡ 0) → a < b → 0 < m
positive zero a b z k = let e = z refl in absurd (omega (arith, e))
positive (suc m) a b z k = omega arith

pub width_positive : (w a v : ℕ) → v < a * w → 0 < w
width_positive w a v k = positive w v (a * w) (λ e. ap (λ x. a * x) e ∙ omega arith) k

pub level_below : (w h n v : ℕ) → v < n * h * w → v / w / h < n
level_below w h n v k =
    let a = div_below v w (n * h) (width_positive w (n * h) v k) k in
    div_below (v / w) h n (width_positive h n (v / w) a) a

pub row_below : (w h n v : ℕ) → v < n * h * w → v / w % h < h
row_below w h n v k =
    let a = div_below v w (n * h) (width_positive w (n * h) v k) k in
    mod_below (v / w) h (width_positive h n (v / w) a)

pub on_level_below : (w h n l v : ℕ) → l < n → v < n * h * w → (l * h + v / w % h) * w + v % w < n * h * w
on_level_below w h n l v hl k =
    node_below w h n l (v / w % h) (v % w) hl (row_below w h n v k) (mod_below v w (width_positive w (n * h) v k))
