-- A segment through a point keeps what its two parts keep.
use Rattle.std.proofs.Common.{◌≡◌, ℕ, [], ◌∷◌, ℤ, pos, ◌+◌, ◌*◌, ◌-◌, ◌≤◌, ◌<◌, ◌+ℤ◌, ◌-ℤ◌, ◌*ℤ◌, ◌≤ℤ◌, ◌<ℤ◌, ◌⊎◌, inl}
use Rattle.std.proofs.Common.{inr, ap, ap₂, ◌∙◌, arith, mul-pos, mul-le-mul, le_refl}
use Rattle.std.proofs.lemmas.Int.{ints}
use Rattle.geo_kernel.specs.declared.point.Point.{Point}
use Rattle.geo_kernel.specs.Plane.{apart, squared, distance_at, SegmentsKeep}
use Rattle.geo_kernel.proofs.Ring.{ring, ◌⊕◌, ◌⊖◌, ◌⊗◌, x0, x1, x2, x3, x4, x5, x6, x7, x8, x9}
use Rattle.geo_kernel.proofs.Order.{cancel}
use Rattle.geo_kernel.proofs.Segments.{less}

-- b lies between a and c, as r parts of a and p parts of c
pub record IsBetween (p r : ℕ) (a b c : Point) : Type 0 where
  pub some_p : 0 < p
  pub some_r : 0 < r
  pub x_is : pos (p + r) *ℤ b.x ≡ pos r *ℤ a.x +ℤ pos p *ℤ c.x
  pub y_is : pos (p + r) *ℤ b.y ≡ pos r *ℤ a.y +ℤ pos p *ℤ c.y

-- ---- along one axis
module _ (n s t p r a b c i j : ℤ) (e : (p +ℤ r) *ℤ b ≡ r *ℤ a +ℤ p *ℤ c) where
  first_part : ((n *ℤ p -ℤ s *ℤ (p +ℤ r)) *ℤ a +ℤ (s *ℤ (p +ℤ r)) *ℤ b) -ℤ ((n *ℤ p -ℤ t *ℤ p) *ℤ i +ℤ (t *ℤ p) *ℤ j)
      ≡ p *ℤ (((n -ℤ s) *ℤ a +ℤ s *ℤ c) -ℤ ((n -ℤ t) *ℤ i +ℤ t *ℤ j))
  first_part =
      ring (n ∷ s ∷ t ∷ p ∷ r ∷ a ∷ b ∷ c ∷ i ∷ j ∷ [])
      (((x0 ⊗ x3 ⊖ x1 ⊗ (x3 ⊕ x4)) ⊗ x5 ⊕ (x1 ⊗ (x3 ⊕ x4)) ⊗ x6) ⊖ ((x0 ⊗ x3 ⊖ x2 ⊗ x3) ⊗ x8 ⊕ (x2 ⊗ x3) ⊗ x9))
      (((x0 ⊗ x3 ⊖ x1 ⊗ (x3 ⊕ x4)) ⊗ x5 ⊕ x1 ⊗ ((x3 ⊕ x4) ⊗ x6)) ⊖ ((x0 ⊗ x3 ⊖ x2 ⊗ x3) ⊗ x8 ⊕ (x2 ⊗ x3) ⊗ x9)) tt
      ∙ ap (λ (z : ℤ). ((n *ℤ p -ℤ s *ℤ (p +ℤ r)) *ℤ a +ℤ s *ℤ z) -ℤ ((n *ℤ p -ℤ t *ℤ p) *ℤ i +ℤ (t *ℤ p) *ℤ j)) e
      ∙ ring (n ∷ s ∷ t ∷ p ∷ r ∷ a ∷ b ∷ c ∷ i ∷ j ∷ [])
      (((x0 ⊗ x3 ⊖ x1 ⊗ (x3 ⊕ x4)) ⊗ x5 ⊕ x1 ⊗ (x4 ⊗ x5 ⊕ x3 ⊗ x7)) ⊖ ((x0 ⊗ x3 ⊖ x2 ⊗ x3) ⊗ x8 ⊕ (x2 ⊗ x3) ⊗ x9))
      (x3 ⊗ (((x0 ⊖ x1) ⊗ x5 ⊕ x1 ⊗ x7) ⊖ ((x0 ⊖ x2) ⊗ x8 ⊕ x2 ⊗ x9))) tt

  second_part : ((n *ℤ r -ℤ (s *ℤ (p +ℤ r) -ℤ n *ℤ p)) *ℤ b +ℤ (s *ℤ (p +ℤ r) -ℤ n *ℤ p) *ℤ c) -ℤ
      ((n *ℤ r -ℤ t *ℤ r) *ℤ i +ℤ (t *ℤ r) *ℤ j)
      ≡ r *ℤ (((n -ℤ s) *ℤ a +ℤ s *ℤ c) -ℤ ((n -ℤ t) *ℤ i +ℤ t *ℤ j))
  second_part =
      ring (n ∷ s ∷ t ∷ p ∷ r ∷ a ∷ b ∷ c ∷ i ∷ j ∷ [])
      (((x0 ⊗ x4 ⊖ (x1 ⊗ (x3 ⊕ x4) ⊖ x0 ⊗ x3)) ⊗ x6 ⊕ (x1 ⊗ (x3 ⊕ x4) ⊖ x0 ⊗ x3) ⊗ x7) ⊖
      ((x0 ⊗ x4 ⊖ x2 ⊗ x4) ⊗ x8 ⊕ (x2 ⊗ x4) ⊗ x9))
      (((x0 ⊖ x1) ⊗ ((x3 ⊕ x4) ⊗ x6) ⊕ (x1 ⊗ (x3 ⊕ x4) ⊖ x0 ⊗ x3) ⊗ x7) ⊖ ((x0 ⊗ x4 ⊖ x2 ⊗ x4) ⊗ x8 ⊕ (x2 ⊗ x4) ⊗ x9))
      tt
      ∙ ap (λ (z : ℤ). ((n -ℤ s) *ℤ z +ℤ (s *ℤ (p +ℤ r) -ℤ n *ℤ p) *ℤ c) -ℤ ((n *ℤ r -ℤ t *ℤ r) *ℤ i +ℤ (t *ℤ r) *ℤ j))
      e
      ∙ ring (n ∷ s ∷ t ∷ p ∷ r ∷ a ∷ b ∷ c ∷ i ∷ j ∷ [])
      (((x0 ⊖ x1) ⊗ (x4 ⊗ x5 ⊕ x3 ⊗ x7) ⊕ (x1 ⊗ (x3 ⊕ x4) ⊖ x0 ⊗ x3) ⊗ x7) ⊖
      ((x0 ⊗ x4 ⊖ x2 ⊗ x4) ⊗ x8 ⊕ (x2 ⊗ x4) ⊗ x9))
      (x4 ⊗ (((x0 ⊖ x1) ⊗ x5 ⊕ x1 ⊗ x7) ⊖ ((x0 ⊖ x2) ⊗ x8 ⊕ x2 ⊗ x9))) tt

module _ (n s t p r : ℕ) (hs : s ≤ n) (ht : t ≤ n) where
  first_axis : s * (p + r) ≤ n * p → (a b c i j : ℤ) → pos (p + r) *ℤ b ≡ pos r *ℤ a +ℤ pos p *ℤ c →
      apart (n * p) (s * (p + r)) (t * p) a b i j ≡ pos p *ℤ apart n s t a c i j
  first_axis h a b c i j e =
      let k : t * p ≤ n * p = mul-le-mul ht (le_refl p) in
      rw (less (n * p) (s * (p + r)) h, less (n * p) (t * p) k, less n s hs, less n t ht)
      (first_part (pos n) (pos s) (pos t) (pos p) (pos r) a b c i j e)

  second_axis : n * p ≤ s * (p + r) → (a b c i j : ℤ) → pos (p + r) *ℤ b ≡ pos r *ℤ a +ℤ pos p *ℤ c →
      apart (n * r) (s * (p + r) - n * p) (t * r) b c i j ≡ pos r *ℤ apart n s t a c i j
  second_axis h a b c i j e =
      let k : t * r ≤ n * r = mul-le-mul ht (le_refl r) in
      let q : s * (p + r) ≤ n * (p + r) = mul-le-mul hs (le_refl (p + r)) in
      let l : s * (p + r) - n * p ≤ n * r = omega arith in
      rw (
        less (n * r) (s * (p + r) - n * p) l,
        less (n * r) (t * r) k,
        less (s * (p + r)) (n * p) h,
        less n s hs,
        less n t ht,
      ) (second_part (pos n) (pos s) (pos t) (pos p) (pos r) a b c i j e)

squared_times : (p x y : ℤ) → squared (p *ℤ x) (p *ℤ y) ≡ (p *ℤ p) *ℤ squared x y
squared_times p x y =
    ring (p ∷ x ∷ y ∷ []) ((x0 ⊗ x1) ⊗ (x0 ⊗ x1) ⊕ (x0 ⊗ x2) ⊗ (x0 ⊗ x2)) ((x0 ⊗ x0) ⊗ (x1 ⊗ x1 ⊕ x2 ⊗ x2)) tt

-- a distance p times as large at points p times as fine
scaled_down : (k n p : ℕ) (D E : ℤ) → 0 < p → E ≡ pos (p * p) *ℤ D → pos (k * k * ((n * p) * (n * p))) ≤ℤ (pos 4 *ℤ E)
    → pos (k * k * (n * n)) ≤ℤ (pos 4 *ℤ D)
scaled_down k n p D E some e h =
    let q : 0 < p * p = mul-pos some some in
    cancel (pos (p * p)) (pos (k * k * (n * n))) (pos 4 *ℤ D) (positive (p * p) q)
    (by _ _ _ _ h (left k n p) (right (pos (p * p)) D E e))
  where
    positive : (m : ℕ) → 0 < m → pos 0 <ℤ pos m
    positive m h = omega (arith, ints)

    left : (k n p : ℕ) → pos (k * k * ((n * p) * (n * p))) ≡ pos (p * p) *ℤ pos (k * k * (n * n))
    left k n p =
        ring (pos k ∷ pos n ∷ pos p ∷ []) ((x0 ⊗ x0) ⊗ ((x1 ⊗ x2) ⊗ (x1 ⊗ x2))) ((x2 ⊗ x2) ⊗ ((x0 ⊗ x0) ⊗ (x1 ⊗ x1))) tt

    right : (q D E : ℤ) → E ≡ q *ℤ D → pos 4 *ℤ E ≡ q *ℤ (pos 4 *ℤ D)
    right q D E e = ap (λ (z : ℤ). pos 4 *ℤ z) e ∙ ring (pos 4 ∷ q ∷ D ∷ []) (x0 ⊗ (x1 ⊗ x2)) (x1 ⊗ (x0 ⊗ x2)) tt

    by : (x y z w : ℤ) → x ≤ℤ y → x ≡ z → y ≡ w → z ≤ℤ w
    by x y z w h e f = omega (arith, ints)

-- the two parts keep k from a segment, and so does the whole
pub parts_keep : (p r : ℕ) (a b c u v : Point) (k : ℕ) → IsBetween p r a b c → SegmentsKeep a b u v k
    → SegmentsKeep b c u v k → SegmentsKeep a c u v k
parts_keep p r a b c u v k between first second =
    record { keep = λ n s t some hs ht. at n s t some hs ht (either (s * (p + r)) (n * p)) }
  where
    either : (x y : ℕ) → (x ≤ y) ⊎ (y ≤ x)
    either x y = grind arith

    at : (n s t : ℕ) → 0 < n → s ≤ n → t ≤ n → (s * (p + r) ≤ n * p) ⊎ (n * p ≤ s * (p + r))
        → pos (k * k * (n * n)) ≤ℤ (pos 4 *ℤ distance_at n s t a c u v)
    at n s t some hs ht (inl h) =
        scaled_down k n p (distance_at n s t a c u v) (distance_at (n * p) (s * (p + r)) (t * p) a b u v) between.some_p
        (ap₂ squared (first_axis n s t p r hs ht h a.x b.x c.x u.x v.x between.x_is)
        (first_axis n s t p r hs ht h a.y b.y c.y u.y v.y between.y_is) ∙ squared_times (pos p) _ _)
        (first.keep (n * p) (s * (p + r)) (t * p) (mul-pos some between.some_p) h (mul-le-mul ht (le_refl p)))
    at n s t some hs ht (inr h) =
        scaled_down k n r (distance_at n s t a c u v) (distance_at (n * r) (s * (p + r) - n * p) (t * r) b c u v)
        between.some_r
        (ap₂ squared (second_axis n s t p r hs ht h a.x b.x c.x u.x v.x between.x_is)
        (second_axis n s t p r hs ht h a.y b.y c.y u.y v.y between.y_is) ∙ squared_times (pos r) _ _)
        (second.keep (n * r) (s * (p + r) - n * p) (t * r) (mul-pos some between.some_r) (within n s hs)
        (mul-le-mul ht (le_refl r)))
      where
        within : (n s : ℕ) → s ≤ n → s * (p + r) - n * p ≤ n * r
        within n s h = let q : s * (p + r) ≤ n * (p + r) = mul-le-mul h (le_refl (p + r)) in omega arith
