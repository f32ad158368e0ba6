-- Boxes that are parted along one axis part what lies in them.
use Rattle.std.proofs.Common.{◌≡◌, ℕ, [], ◌∷◌, ℤ, pos, ◌*◌, ◌-◌, ◌≤◌, ◌+ℤ◌, ◌-ℤ◌, ◌*ℤ◌, ◌≤ℤ◌, ◌⊎◌, inl, inr, refl, ap}
use Rattle.std.proofs.Common.{◌∙◌, arith}
use Rattle.std.proofs.lemmas.Int.{ints}
use Rattle.geo_kernel.specs.declared.point.Point.{Point}
use Rattle.geo_kernel.specs.declared.point.Rect4.{Rect4}
use Rattle.geo_kernel.specs.Plane.{apart, SegmentsKeep}
use Rattle.geo_kernel.specs.Boxes.{IsIn, IsGap, IsParted}
use Rattle.geo_kernel.proofs.Ring.{ring, lit, ◌⊕◌, ◌⊖◌, ◌⊗◌, x0, x1, x2}
use Rattle.geo_kernel.proofs.Order.{square_not_negative, product_not_negative, scale}
use Rattle.geo_kernel.proofs.Segments.{less, apart_swapped, square_swapped}

whole : (n s : ℕ) (z : ℤ) → s ≤ n → (pos (n - s) *ℤ z +ℤ pos s *ℤ z) ≡ pos n *ℤ z
whole n s z h = rw (less n s h) (ring (pos n ∷ pos s ∷ z ∷ []) ((x0 ⊖ x1) ⊗ x2 ⊕ x1 ⊗ x2) (x0 ⊗ x2) tt)

-- the points of p q are at most hi, those of i j at least lo
gap : (n s t : ℕ) (p q i j hi lo : ℤ) → s ≤ n → t ≤ n → p ≤ℤ hi → q ≤ℤ hi → lo ≤ℤ i → lo ≤ℤ j
    → (pos n *ℤ (lo -ℤ hi)) ≤ℤ (pos 0 -ℤ apart n s t p q i j)
gap n s t p q i j hi lo l m hp hq hi' hj =
    by (pos (n - s) *ℤ p) (pos s *ℤ q) (pos (n - t) *ℤ i) (pos t *ℤ j) (pos (n - s) *ℤ hi) (pos s *ℤ hi)
    (pos (n - t) *ℤ lo) (pos t *ℤ lo) (pos n *ℤ hi) (pos n *ℤ lo) (pos n *ℤ (lo -ℤ hi))
    (scale (pos (n - s)) p hi (omega (arith, ints)) hp) (scale (pos s) q hi (omega (arith, ints)) hq)
    (scale (pos (n - t)) lo i (omega (arith, ints)) hi') (scale (pos t) lo j (omega (arith, ints)) hj)
    (whole n s hi l) (whole n t lo m) (ring (pos n ∷ lo ∷ hi ∷ []) (x0 ⊗ (x1 ⊖ x2)) (x0 ⊗ x1 ⊖ x0 ⊗ x2) tt)
  where
    by : (a b c d ah bh cl dl nh nl g : ℤ) → a ≤ℤ ah → b ≤ℤ bh → cl ≤ℤ c → dl ≤ℤ d → ah +ℤ bh ≡ nh → cl +ℤ dl ≡ nl
        → g ≡ nl -ℤ nh → g ≤ℤ (pos 0 -ℤ ((a +ℤ b) -ℤ (c +ℤ d)))
    by a b c d ah bh cl dl nh nl g ha hb hc hd e f k = omega (arith, ints)

square_grows : (u v : ℤ) → pos 0 ≤ℤ u → u ≤ℤ v → (u *ℤ u) ≤ℤ (v *ℤ v)
square_grows u v h k =
    by (u *ℤ u) (u *ℤ v) (v *ℤ u) (v *ℤ v) (scale u u v h k) (ring (u ∷ v ∷ []) (x0 ⊗ x1) (x1 ⊗ x0) tt)
    (scale v u v (omega (arith, ints)) k)
  where
    by : (a b c d : ℤ) → a ≤ℤ b → b ≡ c → c ≤ℤ d → a ≤ℤ d
    by a b c d x e y = omega (arith, ints)

far_apart : (k n : ℕ) (g z w : ℤ) → pos 0 ≤ℤ g → pos k ≤ℤ (pos 2 *ℤ g) → w ≡ pos 0 -ℤ z → (pos n *ℤ g) ≤ℤ w
    → pos (k * k * (n * n)) ≤ℤ (pos 4 *ℤ (z *ℤ z))
far_apart k n g z w some wide e h =
    let first = square_grows (pos n *ℤ pos k) (pos n *ℤ (pos 2 *ℤ g)) (omega (arith, ints))
    (scale (pos n) (pos k) (pos 2 *ℤ g) (omega (arith, ints)) wide) in
    let second = square_grows (pos n *ℤ g) w (by_scale n g some) h in
    by (pos (k * k * (n * n))) ((pos n *ℤ pos k) *ℤ (pos n *ℤ pos k))
    ((pos n *ℤ (pos 2 *ℤ g)) *ℤ (pos n *ℤ (pos 2 *ℤ g))) ((pos n *ℤ g) *ℤ (pos n *ℤ g)) (w *ℤ w) (z *ℤ z)
    (count k n) first
    (ring (pos n ∷ g ∷ []) ((x0 ⊗ (lit 2 ⊗ x1)) ⊗ (x0 ⊗ (lit 2 ⊗ x1))) (lit 4 ⊗ ((x0 ⊗ x1) ⊗ (x0 ⊗ x1))) tt) second
    (ap (λ y. y *ℤ y) e ∙ ring (z ∷ []) ((lit 0 ⊖ x0) ⊗ (lit 0 ⊖ x0)) (x0 ⊗ x0) tt)
  where
    by : (a b c d f q : ℤ) → a ≡ b → b ≤ℤ c → c ≡ pos 4 *ℤ d → d ≤ℤ f → f ≡ q → a ≤ℤ (pos 4 *ℤ q)
    by a b c d f q e h i j l = omega (arith, ints)

    by_scale : (n : ℕ) (g : ℤ) → pos 0 ≤ℤ g → pos 0 ≤ℤ (pos n *ℤ g)
    by_scale n g h = product_not_negative (pos n) g (omega (arith, ints)) h

    count : (k n : ℕ) → pos (k * k * (n * n)) ≡ (pos n *ℤ pos k) *ℤ (pos n *ℤ pos k)
    count k n = ap pos (omega arith)

-- ---- along one axis, p and q from a0 to a1, i and j from b0 to b1
far_along : (n s t k : ℕ) (p q i j hi lo : ℤ) → s ≤ n → t ≤ n → IsGap hi lo k → p ≤ℤ hi → q ≤ℤ hi → lo ≤ℤ i → lo ≤ℤ j
    → pos (k * k * (n * n)) ≤ℤ (pos 4 *ℤ (apart n s t p q i j *ℤ apart n s t p q i j))
far_along n s t k p q i j hi lo l m g hp hq hi' hj =
    let z = apart n s t p q i j in
    far_apart k n (lo -ℤ hi) z (pos 0 -ℤ z) (some k hi lo g) g refl (gap n s t p q i j hi lo l m hp hq hi' hj)
  where
    some : (k : ℕ) (hi lo : ℤ) → IsGap hi lo k → pos 0 ≤ℤ (lo -ℤ hi)
    some k hi lo g = omega (arith, ints)

far_either : (n s t k : ℕ) (p q i j a0 a1 b0 b1 : ℤ) → s ≤ n → t ≤ n → a0 ≤ℤ p → p ≤ℤ a1 → a0 ≤ℤ q → q ≤ℤ a1 → b0 ≤ℤ i
    → i ≤ℤ b1 → b0 ≤ℤ j → j ≤ℤ b1 →
    IsGap a1 b0 k ⊎ IsGap b1 a0 k → pos (k * k * (n * n)) ≤ℤ (pos 4 *ℤ (apart n s t p q i j *ℤ apart n s t p q i j))
far_either n s t k p q i j a0 a1 b0 b1 l m p0 p1 q0 q1 i0 i1 j0 j1 (inl g) =
    far_along n s t k p q i j a1 b0 l m g p1 q1 i0 j0
far_either n s t k p q i j a0 a1 b0 b1 l m p0 p1 q0 q1 i0 i1 j0 j1 (inr g) =
    rw (← square_swapped (apart n s t p q i j), ← apart_swapped n s t p q i j)
    (far_along n t s k i j p q b1 a0 m l g i1 j1 p0 q0)

-- ---- segments in parted boxes
pub parted_keep : (A B : Rect4) (k : ℕ) (a b c d : Point) → IsParted A B k → IsIn A a → IsIn A b → IsIn B c → IsIn B d
    → SegmentsKeep a b c d k
parted_keep A B k a b c d (inl g) ia ib ic id = record {
  keep = λ n s t some l m.
      let x = apart n s t a.x b.x c.x d.x in
      let y = apart n s t a.y b.y c.y d.y in
      first (pos (k * k * (n * n))) (x *ℤ x) (y *ℤ y)
      (far_either n s t k a.x b.x c.x d.x A.x0 A.x1 B.x0 B.x1 l m ia.left ia.right ib.left ib.right ic.left ic.right
      id.left id.right g) (square_not_negative y);
}
  where
    first : (z p q : ℤ) → z ≤ℤ (pos 4 *ℤ p) → pos 0 ≤ℤ q → z ≤ℤ (pos 4 *ℤ (p +ℤ q))
    first z p q h k = omega (arith, ints)
parted_keep A B k a b c d (inr g) ia ib ic id = record {
  keep = λ n s t some l m.
      let x = apart n s t a.x b.x c.x d.x in
      let y = apart n s t a.y b.y c.y d.y in
      second (pos (k * k * (n * n))) (x *ℤ x) (y *ℤ y)
      (far_either n s t k a.y b.y c.y d.y A.y0 A.y1 B.y0 B.y1 l m ia.bottom ia.top ib.bottom ib.top ic.bottom ic.top
      id.bottom id.top g) (square_not_negative x);
}
  where
    second : (z p q : ℤ) → z ≤ℤ (pos 4 *ℤ q) → pos 0 ≤ℤ p → z ≤ℤ (pos 4 *ℤ (p +ℤ q))
    second z p q h k = omega (arith, ints)
