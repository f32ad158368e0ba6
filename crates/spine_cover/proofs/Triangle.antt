-- Two segments near one point are near each other, by the triangle inequality.
use Rattle.std.proofs.Common.{◌≡◌, ℕ, [], ◌∷◌, ℤ, pos, ◌+◌, ◌*◌, ◌≤◌, ◌+ℤ◌, ◌-ℤ◌, ◌*ℤ◌, ◌≤ℤ◌, ◌<ℤ◌, refl, sym, ap₂}
use Rattle.std.proofs.Common.{arith, mul-pos, mul-le-mul, le_refl}
use Rattle.std.proofs.lemmas.Int.{ints, by_lt_z}
use Rattle.geo_kernel.specs.declared.point.Point.{Point}
use Rattle.geo_kernel.specs.Plane.{apart, squared, SegmentsTouch}
use Rattle.geo_kernel.specs.Nearest.{dot, cross}
use Rattle.geo_kernel.proofs.Ring.{ring, var, lit, ◌⊕◌, ◌⊖◌, ◌⊗◌, x0, x1, x2, x3, x4, x5, x6, x7, x8, x9}
use Rattle.geo_kernel.proofs.Order.{square_not_negative, product_not_negative, product_positive, scale}
use Rattle.geo_kernel.proofs.Foot.{dotE, crossE, normE, norm_not_negative}
use Rattle.geo_kernel.proofs.Segments.{less}

-- along one axis: how far apart the points of two segments are, by how far each is from p
apart_by : (n m s t q r : ℕ) (p a b c d : ℤ) → s ≤ n → t ≤ n → q ≤ m → r ≤ m →
    apart (n * m) (t * m) (n * r) a b c d ≡ pos n *ℤ apart m q r p p c d -ℤ pos m *ℤ apart n s t p p a b
apart_by n m s t q r p a b c d hs ht hq hr =
    let tm : t * m ≤ n * m = mul-le-mul ht (le_refl m) in
    let nr : n * r ≤ n * m = mul-le-mul (le_refl n) hr in
    rw (less n s hs, less n t ht, less m q hq, less m r hr, less (n * m) (t * m) tm, less (n * m) (n * r) nr)
    (ring (pos n ∷ pos m ∷ pos s ∷ pos t ∷ pos q ∷ pos r ∷ p ∷ a ∷ b ∷ c ∷ d ∷ [])
    (((x0 ⊗ x1 ⊖ x3 ⊗ x1) ⊗ x7 ⊕ (x3 ⊗ x1) ⊗ x8) ⊖ ((x0 ⊗ x1 ⊖ x0 ⊗ x5) ⊗ x9 ⊕ (x0 ⊗ x5) ⊗ var 10))
    (x0 ⊗ (((x1 ⊖ x4) ⊗ x6 ⊕ x4 ⊗ x6) ⊖ ((x1 ⊖ x5) ⊗ x9 ⊕ x5 ⊗ var 10)) ⊖ x1 ⊗
    (((x0 ⊖ x2) ⊗ x6 ⊕ x2 ⊗ x6) ⊖ ((x0 ⊖ x3) ⊗ x7 ⊕ x3 ⊗ x8))) tt)

-- ---- steps on plain numbers
-- a number is at most one that is not negative and has no smaller square
root : (x y : ℤ) → pos 0 ≤ℤ y → (x *ℤ x) ≤ℤ (y *ℤ y) → x ≤ℤ y
root x y low h =
    by_lt_z y x
    (λ l. absurd
    (clash (x *ℤ x) (y *ℤ y) ((x -ℤ y) *ℤ (x +ℤ y)) h
    (ring (x ∷ y ∷ []) ((x0 ⊖ x1) ⊗ (x0 ⊕ x1)) (x0 ⊗ x0 ⊖ x1 ⊗ x1) tt)
    (product_positive (x -ℤ y) (x +ℤ y) (above x y l) (more x y low l))))
    (λ l. l)
  where
    above : (x y : ℤ) → y <ℤ x → pos 0 <ℤ (x -ℤ y)
    above x y l = omega (arith, ints)

    more : (x y : ℤ) → pos 0 ≤ℤ y → y <ℤ x → pos 0 <ℤ (x +ℤ y)
    more x y h l = omega (arith, ints)

    clash : (a b c : ℤ) → a ≤ℤ b → c ≡ a -ℤ b → pos 0 <ℤ c → ⊥
    clash a b c h e l = omega (arith, ints)

follow : (a b c : ℤ) → a ≤ℤ b → b ≤ℤ c → a ≤ℤ c
follow a b c h k = omega (arith, ints)

swap_le : (a b c d : ℤ) → a ≡ c → b ≡ d → c ≤ℤ d → a ≤ℤ b
swap_le a b c d e f h = omega (arith, ints)

less_part : (a b c : ℤ) → a ≡ b +ℤ c → pos 0 ≤ℤ c → b ≤ℤ a
less_part a b c e h = omega (arith, ints)

four_not_negative : (a : ℤ) → pos 0 ≤ℤ a → pos 0 ≤ℤ (pos 4 *ℤ a)
four_not_negative a h = omega (arith, ints)

three : (l r p q z p' q' z' : ℤ) → l ≡ (p +ℤ q) +ℤ pos 2 *ℤ z → r ≡ (p' +ℤ q') +ℤ pos 2 *ℤ z' → p ≤ℤ p' → q ≤ℤ q'
    → z ≤ℤ z' → l ≤ℤ r
three l r p q z p' q' z' e f h k i = omega (arith, ints)

-- ---- the vector u/n is at most w/2 long, and v/m at most z/2: their difference is at most half of w + z long
module _ (n m w z ux uy vx vy : ℤ) (n_low : pos 0 ≤ℤ n) (m_low : pos 0 ≤ℤ m) (w_low : pos 0 ≤ℤ w) (z_low : pos 0 ≤ℤ z)
    (first : (pos 4 *ℤ squared ux uy) ≤ℤ (w *ℤ w *ℤ (n *ℤ n)))
    (second : (pos 4 *ℤ squared vx vy) ≤ℤ (z *ℤ z *ℤ (m *ℤ m))) where
  abbrev A : ℤ
  A = pos 4 *ℤ squared ux uy

  abbrev B : ℤ
  B = pos 4 *ℤ squared vx vy

  abbrev A' : ℤ
  A' = w *ℤ w *ℤ (n *ℤ n)

  abbrev B' : ℤ
  B' = z *ℤ z *ℤ (m *ℤ m)

  abbrev X : ℤ
  X = pos 0 -ℤ pos 4 *ℤ dot ux uy vx vy

  abbrev Y : ℤ
  Y = w *ℤ z *ℤ (n *ℤ m)

  lagrange : A *ℤ B ≡ X *ℤ X +ℤ (pos 4 *ℤ cross ux uy vx vy) *ℤ (pos 4 *ℤ cross ux uy vx vy)
  lagrange = ring (ux ∷ uy ∷ vx ∷ vy ∷ []) ((lit 4 ⊗ normE x0 x1) ⊗ (lit 4 ⊗ normE x2 x3))
      ((lit 0 ⊖ lit 4 ⊗ dotE x0 x1 x2 x3) ⊗ (lit 0 ⊖ lit 4 ⊗ dotE x0 x1 x2 x3) ⊕ (lit 4 ⊗ crossE x0 x1 x2 x3) ⊗
      (lit 4 ⊗ crossE x0 x1 x2 x3)) tt

  bounds : A' *ℤ B' ≡ Y *ℤ Y
  bounds = ring (n ∷ m ∷ w ∷ z ∷ []) ((x2 ⊗ x2 ⊗ (x0 ⊗ x0)) ⊗ (x3 ⊗ x3 ⊗ (x1 ⊗ x1)))
      ((x2 ⊗ x3 ⊗ (x0 ⊗ x1)) ⊗ (x2 ⊗ x3 ⊗ (x0 ⊗ x1))) tt

  a_low : pos 0 ≤ℤ A
  a_low = four_not_negative (squared ux uy) (norm_not_negative ux uy)

  b'_low : pos 0 ≤ℤ B'
  b'_low = product_not_negative (z *ℤ z) (m *ℤ m) (square_not_negative z) (square_not_negative m)

  products : (A *ℤ B) ≤ℤ (A' *ℤ B')
  products = follow (A *ℤ B) (A *ℤ B') (A' *ℤ B') (scale A B B' a_low second)
      (swap_le (A *ℤ B') (A' *ℤ B') (B' *ℤ A) (B' *ℤ A') (turned A B') (turned A' B') (scale B' A A' b'_low first))
    where
      turned : (a b : ℤ) → a *ℤ b ≡ b *ℤ a
      turned a b = ring (a ∷ b ∷ []) (x0 ⊗ x1) (x1 ⊗ x0) tt

  middle : X ≤ℤ Y
  middle = root X Y
      (product_not_negative (w *ℤ z) (n *ℤ m) (product_not_negative w z w_low z_low)
      (product_not_negative n m n_low m_low))
      (follow (X *ℤ X) (A *ℤ B) (Y *ℤ Y)
      (less_part (A *ℤ B) (X *ℤ X) _ lagrange (square_not_negative (pos 4 *ℤ cross ux uy vx vy)))
      (swap_le (A *ℤ B) (Y *ℤ Y) (A *ℤ B) (A' *ℤ B') refl (sym bounds) products))

  left : pos 4 *ℤ squared (n *ℤ vx -ℤ m *ℤ ux) (n *ℤ vy -ℤ m *ℤ uy)
      ≡ ((n *ℤ n) *ℤ B +ℤ (m *ℤ m) *ℤ A) +ℤ pos 2 *ℤ ((n *ℤ m) *ℤ X)
  left = ring (n ∷ m ∷ ux ∷ uy ∷ vx ∷ vy ∷ [])
      (lit 4 ⊗ normE (x0 ⊗ x4 ⊖ x1 ⊗ x2) (x0 ⊗ x5 ⊖ x1 ⊗ x3))
      (((x0 ⊗ x0) ⊗ (lit 4 ⊗ normE x4 x5) ⊕ (x1 ⊗ x1) ⊗ (lit 4 ⊗ normE x2 x3)) ⊕ lit 2 ⊗
      ((x0 ⊗ x1) ⊗ (lit 0 ⊖ lit 4 ⊗ dotE x2 x3 x4 x5))) tt

  right : (w +ℤ z) *ℤ (w +ℤ z) *ℤ (n *ℤ m *ℤ (n *ℤ m)) ≡ ((n *ℤ n) *ℤ B' +ℤ (m *ℤ m) *ℤ A') +ℤ pos 2 *ℤ ((n *ℤ m) *ℤ Y)
  right = ring (n ∷ m ∷ w ∷ z ∷ [])
      ((x2 ⊕ x3) ⊗ (x2 ⊕ x3) ⊗ (x0 ⊗ x1 ⊗ (x0 ⊗ x1)))
      (((x0 ⊗ x0) ⊗ (x3 ⊗ x3 ⊗ (x1 ⊗ x1)) ⊕ (x1 ⊗ x1) ⊗ (x2 ⊗ x2 ⊗ (x0 ⊗ x0))) ⊕ lit 2 ⊗
      ((x0 ⊗ x1) ⊗ (x2 ⊗ x3 ⊗ (x0 ⊗ x1)))) tt

  triangle : (pos 4 *ℤ squared (n *ℤ vx -ℤ m *ℤ ux) (n *ℤ vy -ℤ m *ℤ uy))
      ≤ℤ ((w +ℤ z) *ℤ (w +ℤ z) *ℤ (n *ℤ m *ℤ (n *ℤ m)))
  triangle = three _ _ ((n *ℤ n) *ℤ B) ((m *ℤ m) *ℤ A) ((n *ℤ m) *ℤ X) ((n *ℤ n) *ℤ B') ((m *ℤ m) *ℤ A') ((n *ℤ m) *ℤ Y)
      left right
      (scale (n *ℤ n) B B' (square_not_negative n) second) (scale (m *ℤ m) A A' (square_not_negative m) first)
      (scale (n *ℤ m) X Y (product_not_negative n m n_low m_low) middle)

-- ---- segments
pub near_both : (p a b c d : Point) (w z : ℕ) → SegmentsTouch p p a b w → SegmentsTouch p p c d z
    → SegmentsTouch a b c d (w + z)
near_both p a b c d w z h k = record {
  n = h.n * k.n;
  s = h.t * k.n;
  t = h.n * k.t;
  some = mul-pos h.some k.some;
  s_within = mul-le-mul h.t_within (le_refl k.n);
  t_within = mul-le-mul (le_refl h.n) k.t_within;
  touch = by _ _ _
      (ap₂ squared (apart_by h.n k.n h.s h.t k.s k.t p.x a.x b.x c.x d.x h.s_within h.t_within k.s_within k.t_within)
      (apart_by h.n k.n h.s h.t k.s k.t p.y a.y b.y c.y d.y h.s_within h.t_within k.s_within k.t_within))
      (triangle (pos h.n) (pos k.n) (pos w) (pos z) (apart h.n h.s h.t p.x p.x a.x b.x)
      (apart h.n h.s h.t p.y p.y a.y b.y) (apart k.n k.s k.t p.x p.x c.x d.x) (apart k.n k.s k.t p.y p.y c.y d.y)
      (at_least h.n) (at_least k.n) (at_least w) (at_least z) h.touch k.touch);
}
  where
    at_least : (n : ℕ) → pos 0 ≤ℤ pos n
    at_least n = omega (arith, ints)

    by : (x y b : ℤ) → x ≡ y → (pos 4 *ℤ y) ≤ℤ b → (pos 4 *ℤ x) ≤ℤ b
    by x y b e h = omega (arith, ints)
