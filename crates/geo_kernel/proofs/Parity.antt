-- Along a segment that meets no edge of a closed path, the parity of the edges to the right of a point stays the same.
-- P and X are the ends of the segment, P not above X, and U and V those of an edge, U not above V. `ep` and `ex` tell
-- on which side of the edge P and X are, `ou` and `ov` on which side of the segment U and V are.
use Rattle.std.proofs.Common.{◌≡◌, List, [], ◌∷◌, ℤ, pos, ◌+ℤ◌, ◌-ℤ◌, ◌*ℤ◌, ◌≤ℤ◌, ◌<ℤ◌, ◌⊎◌, inl, inr, int_lt, int_le}
use Rattle.std.proofs.Common.{◌&&◌, not, Bool, true, false, cond, refl, sym, ap, ap₂, ◌∙◌, arith}
use Rattle.std.proofs.lemmas.Int.{ints, by_lt_z}
use borrow.Author.Differences.{true_is_lt, false_is_lt, true_is_le, false_is_le}
use Rattle.geo_kernel.specs.declared.point.Point.{Point}
use Rattle.geo_kernel.specs.Nearest.{cross, Meets, Cross}
use Rattle.geo_kernel.specs.Spine.{Segment, links, last_of, is_right}
use Rattle.geo_kernel.proofs.Ring.{ring, Exp, lit, ◌⊕◌, ◌⊖◌, ◌⊗◌, x0, x1, x2, x3, x4, x5, x6, x7}
use Rattle.geo_kernel.proofs.Order.{product_not_negative, product_positive}
use Rattle.geo_kernel.proofs.Foot.{crossE}

-- both are positive, or both negative
data SameSign (a b : ℤ) : Type 0 where
  above : pos 0 <ℤ a → pos 0 <ℤ b → SameSign a b
  below : a <ℤ pos 0 → b <ℤ pos 0 → SameSign a b

-- one is positive and one negative, or both are 0
data Opposite (a b : ℤ) : Type 0 where
  down : pos 0 <ℤ a → b <ℤ pos 0 → Opposite a b
  up : a <ℤ pos 0 → pos 0 <ℤ b → Opposite a b
  flat : a ≡ pos 0 → b ≡ pos 0 → Opposite a b

-- both are on one side, or the two lines are parallel
data Apart (ep ex ou ov : ℤ) : Type 0 where
  edge_aside : SameSign ou ov → Apart ep ex ou ov
  way_aside : SameSign ep ex → Apart ep ex ou ov
  parallel : ep ≡ ex → ou ≡ ov → Apart ep ex ou ov

-- ---- signs of a sum of two products
negated : (g v : ℤ) → pos 0 -ℤ g *ℤ v ≡ g *ℤ (pos 0 -ℤ v)
negated g v = ring (g ∷ v ∷ []) (lit 0 ⊖ x0 ⊗ x1) (x0 ⊗ (lit 0 ⊖ x1)) tt

pub sum_positive : (a b p q : ℤ) → pos 0 ≤ℤ a → pos 0 <ℤ b → pos 0 <ℤ p → pos 0 <ℤ q → pos 0 <ℤ (a *ℤ p +ℤ b *ℤ q)
sum_positive a b p q ha hb hp hq = by _ _ (product_not_negative a p ha (weak p hp)) (product_positive b q hb hq)
  where
    weak : (p : ℤ) → pos 0 <ℤ p → pos 0 ≤ℤ p
    weak p h = omega (arith, ints)

    by : (x y : ℤ) → pos 0 ≤ℤ x → pos 0 <ℤ y → pos 0 <ℤ (x +ℤ y)
    by x y h k = omega (arith, ints)

-- g is not negative where g v is positive with v positive, so v is positive
factor_positive : (g v : ℤ) → pos 0 ≤ℤ g → pos 0 <ℤ (g *ℤ v) → pos 0 <ℤ v
factor_positive g v hg h =
    by_lt_z (pos 0) v (λ l. l)
    (λ l. absurd (clash _ _ (product_not_negative g (pos 0 -ℤ v) hg (flip v l)) h (sym (negated g v))))
  where
    flip : (v : ℤ) → v ≤ℤ pos 0 → pos 0 ≤ℤ (pos 0 -ℤ v)
    flip v h = omega (arith, ints)

    clash : (x y : ℤ) → pos 0 ≤ℤ x → pos 0 <ℤ y → x ≡ pos 0 -ℤ y → ⊥
    clash x y h k e = omega (arith, ints)

minus_positive : (v : ℤ) → pos 0 <ℤ (pos 0 -ℤ v) → v <ℤ pos 0
minus_positive v h = omega (arith, ints)

minus_negative : (v : ℤ) → v <ℤ pos 0 → pos 0 <ℤ (pos 0 -ℤ v)
minus_negative v h = omega (arith, ints)

-- a p + b q = - g v, with p and q of one sign: v has the other sign
pulled_down : (a b g p q v : ℤ) → pos 0 ≤ℤ a → pos 0 <ℤ b → pos 0 ≤ℤ g → a *ℤ p +ℤ b *ℤ q ≡ pos 0 -ℤ g *ℤ v → pos 0 <ℤ p
    → pos 0 <ℤ q → v <ℤ pos 0
pulled_down a b g p q v ha hb hg e hp hq =
    minus_positive v (factor_positive g (pos 0 -ℤ v) hg (on _ _ (sum_positive a b p q ha hb hp hq) (e ∙ negated g v)))
  where
    on : (x y : ℤ) → pos 0 <ℤ x → x ≡ y → pos 0 <ℤ y
    on x y h e = omega (arith, ints)

pulled_up : (a b g p q v : ℤ) → pos 0 ≤ℤ a → pos 0 <ℤ b → pos 0 ≤ℤ g → a *ℤ p +ℤ b *ℤ q ≡ pos 0 -ℤ g *ℤ v → p <ℤ pos 0
    → q <ℤ pos 0 → pos 0 <ℤ v
pulled_up a b g p q v ha hb hg e hp hq =
    factor_positive g v hg
    (on (a *ℤ (pos 0 -ℤ p) +ℤ b *ℤ (pos 0 -ℤ q)) (g *ℤ v)
    (sum_positive a b (pos 0 -ℤ p) (pos 0 -ℤ q) ha hb (minus_negative p hp) (minus_negative q hq))
    (turn a b p q ∙ ap (λ z. pos 0 -ℤ z) e ∙ twice (g *ℤ v)))
  where
    on : (x y : ℤ) → pos 0 <ℤ x → x ≡ y → pos 0 <ℤ y
    on x y h e = omega (arith, ints)

    turn : (a b p q : ℤ) → a *ℤ (pos 0 -ℤ p) +ℤ b *ℤ (pos 0 -ℤ q) ≡ pos 0 -ℤ (a *ℤ p +ℤ b *ℤ q)
    turn a b p q = ring (a ∷ b ∷ p ∷ q ∷ []) (x0 ⊗ (lit 0 ⊖ x2) ⊕ x1 ⊗ (lit 0 ⊖ x3)) (lit 0 ⊖ (x0 ⊗ x2 ⊕ x1 ⊗ x3)) tt

    twice : (z : ℤ) → pos 0 -ℤ (pos 0 -ℤ z) ≡ z
    twice z = omega (arith, ints)

pulled : (a b g p q v : ℤ) → pos 0 ≤ℤ a → pos 0 <ℤ b → pos 0 ≤ℤ g → a *ℤ p +ℤ b *ℤ q ≡ pos 0 -ℤ g *ℤ v → SameSign p q
    → Opposite p v
pulled a b g p q v ha hb hg e (above hp hq) = down hp (pulled_down a b g p q v ha hb hg e hp hq)
pulled a b g p q v ha hb hg e (below hp hq) = up hp (pulled_up a b g p q v ha hb hg e hp hq)

-- the same with the two terms in the other order
swapped : (a b p q r : ℤ) → a *ℤ p +ℤ b *ℤ q ≡ r → b *ℤ q +ℤ a *ℤ p ≡ r
swapped a b p q r e = sum_comm (a *ℤ p) (b *ℤ q) ∙ e
  where
    sum_comm : (x y : ℤ) → y +ℤ x ≡ x +ℤ y
    sum_comm x y = omega (arith, ints)

opposite_turned : (a b : ℤ) → Opposite a b → Opposite b a
opposite_turned a b (down h k) = up k h
opposite_turned a b (up h k) = down k h
opposite_turned a b (flat h k) = flat k h

other_sign : (a b : ℤ) → SameSign a b → SameSign b a
other_sign a b (above h k) = above k h
other_sign a b (below h k) = below k h

-- ---- what `is_right` tests
test_opposite : (a b : ℤ) → Opposite a b → int_lt (pos 0) a ≡ int_lt b (pos 0)
test_opposite a b (down h k) = yes_lt (pos 0) a h ∙ sym (yes_lt b (pos 0) k)
  where
    yes_lt : (a b : ℤ) → a <ℤ b → int_lt a b ≡ true
    yes_lt a b h = sym (true_is_lt a b (omega (arith, ints)))
test_opposite a b (up h k) = no_lt (pos 0) a (omega (arith, ints)) ∙ sym (no_lt b (pos 0) (omega (arith, ints)))
  where
    no_lt : (a b : ℤ) → b ≤ℤ a → int_lt a b ≡ false
    no_lt a b h = sym (false_is_lt a b (omega (arith, ints)))
test_opposite a b (flat h k) = ap (int_lt (pos 0)) h ∙ sym (ap (λ z. int_lt z (pos 0)) k)

same_below : (a b : ℤ) → SameSign a b → int_lt a (pos 0) ≡ int_lt b (pos 0)
same_below a b (above h k) = false_lt a h ∙ sym (false_lt b k)
  where
    false_lt : (a : ℤ) → pos 0 <ℤ a → int_lt a (pos 0) ≡ false
    false_lt a h = sym (false_is_lt a (pos 0) (omega (arith, ints)))
same_below a b (below h k) = true_lt a h ∙ sym (true_lt b k)
  where
    true_lt : (a : ℤ) → a <ℤ pos 0 → int_lt a (pos 0) ≡ true
    true_lt a h = sym (true_is_lt a (pos 0) (omega (arith, ints)))

same_above : (a b : ℤ) → SameSign a b → int_lt (pos 0) a ≡ int_lt (pos 0) b
same_above a b (above h k) = true_lt a h ∙ sym (true_lt b k)
  where
    true_lt : (a : ℤ) → pos 0 <ℤ a → int_lt (pos 0) a ≡ true
    true_lt a h = sym (true_is_lt (pos 0) a (omega (arith, ints)))
same_above a b (below h k) = false_lt a h ∙ sym (false_lt b k)
  where
    false_lt : (a : ℤ) → a <ℤ pos 0 → int_lt (pos 0) a ≡ false
    false_lt a h = sym (false_is_lt (pos 0) a (omega (arith, ints)))

-- a p = - g v
nil_factor : (g v : ℤ) → pos 0 <ℤ g → g *ℤ v ≡ pos 0 → v ≡ pos 0
nil_factor g v hg e =
    by_lt_z (pos 0) v (λ l. absurd (clash _ (product_positive g v hg l) e))
    (λ l. by_lt_z v (pos 0)
    (λ m. absurd
    (clash _ (product_positive g (pos 0 -ℤ v) hg (minus_negative v m))
    (sym (negated g v) ∙ ap (λ z. pos 0 -ℤ z) e))) (λ m. both v l m))
  where
    clash : (x : ℤ) → pos 0 <ℤ x → x ≡ pos 0 → ⊥
    clash x h e = omega (arith, ints)

    both : (v : ℤ) → v ≤ℤ pos 0 → pos 0 ≤ℤ v → v ≡ pos 0
    both v h k = omega (arith, ints)

balanced : (a g p v : ℤ) → pos 0 <ℤ a → pos 0 <ℤ g → a *ℤ p ≡ pos 0 -ℤ g *ℤ v → Opposite p v
balanced a g p v ha hg e =
    by_lt_z (pos 0) p (λ l. pulled (pos 0) a g p p v (omega (arith, ints)) ha (weak g hg) (two ∙ e) (above l l))
    (λ l. by_lt_z p (pos 0) (λ m. pulled (pos 0) a g p p v (omega (arith, ints)) ha (weak g hg) (two ∙ e) (below m m))
    (λ m. let z = both p l m in flat z (nil_factor g v hg (none _ _ e (ap (λ y. a *ℤ y) z ∙ nil a)))))
  where
    weak : (g : ℤ) → pos 0 <ℤ g → pos 0 ≤ℤ g
    weak g h = omega (arith, ints)

    two : pos 0 *ℤ p +ℤ a *ℤ p ≡ a *ℤ p
    two = ring (a ∷ p ∷ []) (lit 0 ⊗ x1 ⊕ x0 ⊗ x1) (x0 ⊗ x1) tt

    both : (v : ℤ) → v ≤ℤ pos 0 → pos 0 ≤ℤ v → v ≡ pos 0
    both v h k = omega (arith, ints)

    nil : (a : ℤ) → a *ℤ pos 0 ≡ pos 0
    nil a = ring (a ∷ []) (x0 ⊗ lit 0) (lit 0) tt

    none : (x y : ℤ) → x ≡ pos 0 -ℤ y → x ≡ pos 0 → y ≡ pos 0
    none x y e f = omega (arith, ints)

pulled_second : (a b g p q v : ℤ) → pos 0 ≤ℤ a → pos 0 <ℤ b → pos 0 ≤ℤ g → a *ℤ p +ℤ b *ℤ q ≡ pos 0 -ℤ g *ℤ v
    → SameSign p q → Opposite q v
pulled_second a b g p q v ha hb hg e (above hp hq) = down hq (pulled_down a b g p q v ha hb hg e hp hq)
pulled_second a b g p q v ha hb hg e (below hp hq) = up hq (pulled_up a b g p q v ha hb hg e hp hq)

-- ---- the four cases of an edge that comes into the strip between the heights of P and X
module _ (py xy uy vy ep ex ou ov : ℤ) (rises : py ≤ℤ xy) (climbs : uy ≤ℤ vy)
    (at_u : (xy -ℤ uy) *ℤ ep +ℤ (uy -ℤ py) *ℤ ex ≡ pos 0 -ℤ (vy -ℤ uy) *ℤ ou)
    (at_v : (xy -ℤ vy) *ℤ ep +ℤ (vy -ℤ py) *ℤ ex ≡ pos 0 -ℤ (vy -ℤ uy) *ℤ ov)
    (at_p : (vy -ℤ py) *ℤ ou +ℤ (py -ℤ uy) *ℤ ov ≡ pos 0 -ℤ (xy -ℤ py) *ℤ ep)
    (at_x : (vy -ℤ xy) *ℤ ou +ℤ (xy -ℤ uy) *ℤ ov ≡ pos 0 -ℤ (xy -ℤ py) *ℤ ex) where
  both_ways : (a b g p v : ℤ) → a *ℤ p +ℤ b *ℤ p ≡ pos 0 -ℤ g *ℤ v → (a +ℤ b) *ℤ p ≡ pos 0 -ℤ g *ℤ v
  both_ways a b g p v e = ring (a ∷ b ∷ p ∷ []) ((x0 ⊕ x1) ⊗ x2) (x0 ⊗ x2 ⊕ x1 ⊗ x2) tt ∙ e

  -- U at or below P, V in the strip
  enters : uy ≤ℤ py → py <ℤ vy → vy ≤ℤ xy → Apart ep ex ou ov → int_lt (pos 0) ep ≡ int_lt ov (pos 0)
  enters hu lv hv (edge_aside s) =
      test_opposite ep ov
      (opposite_turned ov ep
      (pulled (py -ℤ uy) (vy -ℤ py) (xy -ℤ py) ov ou ep (omega (arith, ints)) (omega (arith, ints))
      (omega (arith, ints)) (swapped (vy -ℤ py) (py -ℤ uy) ou ov _ at_p) (other_sign ou ov s)))
  enters hu lv hv (way_aside s) =
      test_opposite ep ov
      (pulled (xy -ℤ vy) (vy -ℤ py) (vy -ℤ uy) ep ex ov (omega (arith, ints)) (omega (arith, ints))
      (omega (arith, ints)) at_v s)
  enters hu lv hv (parallel e f) =
      test_opposite ep ov
      (balanced ((xy -ℤ vy) +ℤ (vy -ℤ py)) (vy -ℤ uy) ep ov (omega (arith, ints)) (omega (arith, ints))
      (both_ways (xy -ℤ vy) (vy -ℤ py) (vy -ℤ uy) ep ov (ap (λ z. (xy -ℤ vy) *ℤ ep +ℤ (vy -ℤ py) *ℤ z) e ∙ at_v)))

  -- U in the strip, V above X
  leaves : py <ℤ uy → uy ≤ℤ xy → xy <ℤ vy → Apart ep ex ou ov → int_lt (pos 0) ex ≡ int_lt ou (pos 0)
  leaves lu hu hv (edge_aside s) =
      test_opposite ex ou
      (opposite_turned ou ex
      (pulled_second (xy -ℤ uy) (vy -ℤ xy) (xy -ℤ py) ov ou ex (omega (arith, ints)) (omega (arith, ints))
      (omega (arith, ints)) (swapped (vy -ℤ xy) (xy -ℤ uy) ou ov _ at_x) (other_sign ou ov s)))
  leaves lu hu hv (way_aside s) =
      test_opposite ex ou
      (pulled_second (xy -ℤ uy) (uy -ℤ py) (vy -ℤ uy) ep ex ou (omega (arith, ints)) (omega (arith, ints))
      (omega (arith, ints)) at_u s)
  leaves lu hu hv (parallel e f) =
      test_opposite ex ou
      (balanced ((xy -ℤ uy) +ℤ (uy -ℤ py)) (vy -ℤ uy) ex ou (omega (arith, ints)) (omega (arith, ints))
      (both_ways (xy -ℤ uy) (uy -ℤ py) (vy -ℤ uy) ex ou
      (ap (λ z. (xy -ℤ uy) *ℤ z +ℤ (uy -ℤ py) *ℤ ex) (sym e) ∙ at_u)))

  -- U at or below P, V above X
  passes : uy ≤ℤ py → xy <ℤ vy → Apart ep ex ou ov → int_lt (pos 0) ep ≡ int_lt (pos 0) ex
  passes hu hv (edge_aside s) =
      test_opposite ep ou
      (opposite_turned ou ep
      (pulled_second (py -ℤ uy) (vy -ℤ py) (xy -ℤ py) ov ou ep (omega (arith, ints)) (omega (arith, ints))
      (omega (arith, ints)) (swapped (vy -ℤ py) (py -ℤ uy) ou ov _ at_p) (other_sign ou ov s)))
      ∙ sym (test_opposite ex ou
      (opposite_turned ou ex
      (pulled_second (xy -ℤ uy) (vy -ℤ xy) (xy -ℤ py) ov ou ex (omega (arith, ints)) (omega (arith, ints))
      (omega (arith, ints)) (swapped (vy -ℤ xy) (xy -ℤ uy) ou ov _ at_x) (other_sign ou ov s))))
  passes hu hv (way_aside s) = same_above ep ex s
  passes hu hv (parallel e f) = ap (int_lt (pos 0)) e

  -- both in the strip
  within : py <ℤ uy → vy ≤ℤ xy → Apart ep ex ou ov → int_lt ou (pos 0) ≡ int_lt ov (pos 0)
  within hu hv (edge_aside s) = same_below ou ov s
  within hu hv (way_aside s) =
      sym (test_opposite ep ou
      (pulled (xy -ℤ uy) (uy -ℤ py) (vy -ℤ uy) ep ex ou (omega (arith, ints)) (omega (arith, ints))
      (omega (arith, ints)) at_u s))
      ∙ test_opposite ep ov
      (pulled (xy -ℤ vy) (vy -ℤ py) (vy -ℤ uy) ep ex ov (omega (arith, ints)) (omega (arith, ints))
      (omega (arith, ints)) at_v s)
  within hu hv (parallel e f) = ap (λ z. int_lt z (pos 0)) f

-- ---- the identities
abbrev pub edge_side : ℤ → ℤ → ℤ → ℤ → ℤ → ℤ → ℤ
edge_side ux uy vx vy px py = (vx -ℤ ux) *ℤ (py -ℤ uy) -ℤ (vy -ℤ uy) *ℤ (px -ℤ ux)

abbrev pub sideE : Exp → Exp → Exp → Exp → Exp → Exp → Exp
sideE ux uy vx vy px py = (vx ⊖ ux) ⊗ (py ⊖ uy) ⊖ (vy ⊖ uy) ⊗ (px ⊖ ux)

module _ (px py xx xy ux uy vx vy : ℤ) where
  u_identity : (xy -ℤ uy) *ℤ edge_side ux uy vx vy px py +ℤ (uy -ℤ py) *ℤ edge_side ux uy vx vy xx xy
      ≡ pos 0 -ℤ (vy -ℤ uy) *ℤ edge_side px py xx xy ux uy
  u_identity = ring (px ∷ py ∷ xx ∷ xy ∷ ux ∷ uy ∷ vx ∷ vy ∷ [])
      ((x3 ⊖ x5) ⊗ sideE x4 x5 x6 x7 x0 x1 ⊕ (x5 ⊖ x1) ⊗ sideE x4 x5 x6 x7 x2 x3)
      (lit 0 ⊖ (x7 ⊖ x5) ⊗ sideE x0 x1 x2 x3 x4 x5) tt

  v_identity : (xy -ℤ vy) *ℤ edge_side ux uy vx vy px py +ℤ (vy -ℤ py) *ℤ edge_side ux uy vx vy xx xy
      ≡ pos 0 -ℤ (vy -ℤ uy) *ℤ edge_side px py xx xy vx vy
  v_identity = ring (px ∷ py ∷ xx ∷ xy ∷ ux ∷ uy ∷ vx ∷ vy ∷ [])
      ((x3 ⊖ x7) ⊗ sideE x4 x5 x6 x7 x0 x1 ⊕ (x7 ⊖ x1) ⊗ sideE x4 x5 x6 x7 x2 x3)
      (lit 0 ⊖ (x7 ⊖ x5) ⊗ sideE x0 x1 x2 x3 x6 x7) tt

  p_identity : (vy -ℤ py) *ℤ edge_side px py xx xy ux uy +ℤ (py -ℤ uy) *ℤ edge_side px py xx xy vx vy
      ≡ pos 0 -ℤ (xy -ℤ py) *ℤ edge_side ux uy vx vy px py
  p_identity = ring (px ∷ py ∷ xx ∷ xy ∷ ux ∷ uy ∷ vx ∷ vy ∷ [])
      ((x7 ⊖ x1) ⊗ sideE x0 x1 x2 x3 x4 x5 ⊕ (x1 ⊖ x5) ⊗ sideE x0 x1 x2 x3 x6 x7)
      (lit 0 ⊖ (x3 ⊖ x1) ⊗ sideE x4 x5 x6 x7 x0 x1) tt

  x_identity : (vy -ℤ xy) *ℤ edge_side px py xx xy ux uy +ℤ (xy -ℤ uy) *ℤ edge_side px py xx xy vx vy
      ≡ pos 0 -ℤ (xy -ℤ py) *ℤ edge_side ux uy vx vy xx xy
  x_identity = ring (px ∷ py ∷ xx ∷ xy ∷ ux ∷ uy ∷ vx ∷ vy ∷ [])
      ((x7 ⊖ x3) ⊗ sideE x0 x1 x2 x3 x4 x5 ⊕ (x3 ⊖ x5) ⊗ sideE x0 x1 x2 x3 x6 x7)
      (lit 0 ⊖ (x3 ⊖ x1) ⊗ sideE x4 x5 x6 x7 x2 x3) tt

-- ---- where the segment and the edge do not meet
module _ (c s t ep ex ou ov : ℤ) (is_ep : ep ≡ s) (is_ex : ex ≡ s -ℤ c) (is_ou : ou ≡ pos 0 -ℤ t) (is_ov : ov ≡ c -ℤ t)
  where
    apart_if : ¬ (Meets c s t ⊎ Meets (pos 0 -ℤ c) (pos 0 -ℤ s) (pos 0 -ℤ t)) → Apart ep ex ou ov
    apart_if none =
        by_lt_z (pos 0) c
        (λ l. by_lt_z s (pos 0) (λ m. way_aside (below (omega (arith, ints)) (omega (arith, ints))))
        (λ p. by_lt_z c s (λ m. way_aside (above (omega (arith, ints)) (omega (arith, ints))))
        (λ q. by_lt_z t (pos 0) (λ m. edge_aside (above (omega (arith, ints)) (omega (arith, ints))))
        (λ r. by_lt_z c t (λ m. edge_aside (below (omega (arith, ints)) (omega (arith, ints))))
        (λ u. absurd
        (none (inl (record { apart = l; from_first = p; to_first = q; from_second = r; to_second = u }))))))))
        (λ k. by_lt_z c (pos 0)
        (λ l. by_lt_z (pos 0) s (λ m. way_aside (above (omega (arith, ints)) (omega (arith, ints))))
        (λ p. by_lt_z s c (λ m. way_aside (below (omega (arith, ints)) (omega (arith, ints))))
        (λ q. by_lt_z (pos 0) t (λ m. edge_aside (below (omega (arith, ints)) (omega (arith, ints))))
        (λ r. by_lt_z t c (λ m. edge_aside (above (omega (arith, ints)) (omega (arith, ints))))
        (λ u. absurd
        (none (inr (record {
          apart = omega (arith, ints);
          from_first = omega (arith, ints);
          to_first = omega (arith, ints);
          from_second = omega (arith, ints);
          to_second = omega (arith, ints);
        }))))))))
        (λ l. parallel (omega (arith, ints)) (omega (arith, ints))))

apart_points : (p x u v : Point) → ¬ (Cross p x u v)
    → Apart (edge_side u.x u.y v.x v.y p.x p.y) (edge_side u.x u.y v.x v.y x.x x.y) (edge_side p.x p.y x.x x.y u.x u.y)
    (edge_side p.x p.y x.x x.y v.x v.y)
apart_points p x u v none =
    apart_if (cross (x.x -ℤ p.x) (x.y -ℤ p.y) (v.x -ℤ u.x) (v.y -ℤ u.y))
    (cross (v.x -ℤ u.x) (v.y -ℤ u.y) (p.x -ℤ u.x) (p.y -ℤ u.y))
    (cross (x.x -ℤ p.x) (x.y -ℤ p.y) (p.x -ℤ u.x) (p.y -ℤ u.y))
    _ _ _ _ refl (x_side p.x p.y x.x x.y u.x u.y v.x v.y) (u_side p.x p.y x.x x.y u.x u.y)
    (v_side p.x p.y x.x x.y u.x u.y v.x v.y) none
  where
    x_side : (px py xx xy ux uy vx vy : ℤ)
        → edge_side ux uy vx vy xx xy ≡ cross (vx -ℤ ux) (vy -ℤ uy) (px -ℤ ux) (py -ℤ uy) -ℤ cross (xx -ℤ px) (xy -ℤ py)
        (vx -ℤ ux) (vy -ℤ uy)
    x_side px py xx xy ux uy vx vy =
        ring (px ∷ py ∷ xx ∷ xy ∷ ux ∷ uy ∷ vx ∷ vy ∷ []) (sideE x4 x5 x6 x7 x2 x3)
        (crossE (x6 ⊖ x4) (x7 ⊖ x5) (x0 ⊖ x4) (x1 ⊖ x5) ⊖ crossE (x2 ⊖ x0) (x3 ⊖ x1) (x6 ⊖ x4) (x7 ⊖ x5)) tt

    u_side : (px py xx xy ux uy : ℤ)
        → edge_side px py xx xy ux uy ≡ pos 0 -ℤ cross (xx -ℤ px) (xy -ℤ py) (px -ℤ ux) (py -ℤ uy)
    u_side px py xx xy ux uy =
        ring (px ∷ py ∷ xx ∷ xy ∷ ux ∷ uy ∷ []) (sideE x0 x1 x2 x3 x4 x5)
        (lit 0 ⊖ crossE (x2 ⊖ x0) (x3 ⊖ x1) (x0 ⊖ x4) (x1 ⊖ x5)) tt

    v_side : (px py xx xy ux uy vx vy : ℤ)
        → edge_side px py xx xy vx vy ≡ cross (xx -ℤ px) (xy -ℤ py) (vx -ℤ ux) (vy -ℤ uy) -ℤ cross (xx -ℤ px) (xy -ℤ py)
        (px -ℤ ux) (py -ℤ uy)
    v_side px py xx xy ux uy vx vy =
        ring (px ∷ py ∷ xx ∷ xy ∷ ux ∷ uy ∷ vx ∷ vy ∷ []) (sideE x0 x1 x2 x3 x6 x7)
        (crossE (x2 ⊖ x0) (x3 ⊖ x1) (x6 ⊖ x4) (x7 ⊖ x5) ⊖ crossE (x2 ⊖ x0) (x3 ⊖ x1) (x0 ⊖ x4) (x1 ⊖ x5)) tt

-- ---- the tests as truth values
abbrev pub xor : Bool → Bool → Bool
xor true b = not b
xor false b = b

pub xor_self : (a : Bool) → xor a a ≡ false
xor_self true = refl
xor_self false = refl

xor_comm : (a b : Bool) → xor a b ≡ xor b a
xor_comm true true = refl
xor_comm true false = refl
xor_comm false true = refl
xor_comm false false = refl

-- four at once
xor_pairs : (a b c d : Bool) → xor (xor a b) (xor c d) ≡ xor (xor a c) (xor b d)
xor_pairs true true true true = refl
xor_pairs true true true false = refl
xor_pairs true true false true = refl
xor_pairs true true false false = refl
xor_pairs true false true true = refl
xor_pairs true false true false = refl
xor_pairs true false false true = refl
xor_pairs true false false false = refl
xor_pairs false true true true = refl
xor_pairs false true true false = refl
xor_pairs false true false true = refl
xor_pairs false true false false = refl
xor_pairs false false true true = refl
xor_pairs false false true false = refl
xor_pairs false false false true = refl
xor_pairs false false false false = refl

pub xor_through : (a b c : Bool) → xor (xor a b) (xor b c) ≡ xor a c
xor_through true true true = refl
xor_through true true false = refl
xor_through true false true = refl
xor_through true false false = refl
xor_through false true true = refl
xor_through false true false = refl
xor_through false false true = refl
xor_through false false false = refl

pub le_yes : (a b : ℤ) → a ≤ℤ b → int_le a b ≡ true
le_yes a b h = sym (true_is_le a b (omega (arith, ints)))

pub le_no : (a b : ℤ) → b <ℤ a → int_le a b ≡ false
le_no a b h = sym (false_is_le a b (omega (arith, ints)))

pub lt_yes : (a b : ℤ) → a <ℤ b → int_lt a b ≡ true
lt_yes a b h = sym (true_is_lt a b (omega (arith, ints)))

pub lt_no : (a b : ℤ) → b ≤ℤ a → int_lt a b ≡ false
lt_no a b h = sym (false_is_lt a b (omega (arith, ints)))

-- the edge from U to V, with the side of the edge that the point at height y lies on
abbrev pub right_of : ℤ → ℤ → ℤ → ℤ → Bool
right_of y uy vy e = cond (int_le uy y) (int_lt y vy && int_lt (pos 0) e) (int_le vy y && int_lt e (pos 0))

pub right_in : (y uy vy e : ℤ) → uy ≤ℤ y → y <ℤ vy → right_of y uy vy e ≡ int_lt (pos 0) e
right_in y uy vy e h k =
    ap₂ (λ a b. cond a (b && int_lt (pos 0) e) (int_le vy y && int_lt e (pos 0))) (le_yes uy y h) (lt_yes y vy k)

pub right_below : (y uy vy e : ℤ) → uy ≤ℤ y → vy ≤ℤ y → right_of y uy vy e ≡ false
right_below y uy vy e h k =
    ap₂ (λ a b. cond a (b && int_lt (pos 0) e) (int_le vy y && int_lt e (pos 0))) (le_yes uy y h) (lt_no y vy k)

pub right_above : (y uy vy e : ℤ) → y <ℤ uy → y <ℤ vy → right_of y uy vy e ≡ false
right_above y uy vy e h k =
    ap₂ (λ a b. cond a (int_lt y vy && int_lt (pos 0) e) (b && int_lt e (pos 0))) (le_no uy y h) (le_no vy y k)

pub right_down : (y uy vy e : ℤ) → y <ℤ uy → vy ≤ℤ y → right_of y uy vy e ≡ int_lt e (pos 0)
right_down y uy vy e h k =
    ap₂ (λ a b. cond a (int_lt y vy && int_lt (pos 0) e) (b && int_lt e (pos 0))) (le_no uy y h) (le_yes vy y k)

-- a corner at height v in the strip between the heights p and x, right of the segment
abbrev in_region : ℤ → ℤ → ℤ → ℤ → Bool
in_region py xy vy o = cond (int_le vy py) false (int_le vy xy && int_lt o (pos 0))

region_low : (py xy vy o : ℤ) → vy ≤ℤ py → in_region py xy vy o ≡ false
region_low py xy vy o h = ap (λ a. cond a false (int_le vy xy && int_lt o (pos 0))) (le_yes vy py h)

region_mid : (py xy vy o : ℤ) → py <ℤ vy → vy ≤ℤ xy → in_region py xy vy o ≡ int_lt o (pos 0)
region_mid py xy vy o h k = ap₂ (λ a b. cond a false (b && int_lt o (pos 0))) (le_no vy py h) (le_yes vy xy k)

region_high : (py xy vy o : ℤ) → py <ℤ vy → xy <ℤ vy → in_region py xy vy o ≡ false
region_high py xy vy o h k = ap₂ (λ a b. cond a false (b && int_lt o (pos 0))) (le_no vy py h) (le_no vy xy k)

from_four : (a b c d a' b' c' d' : Bool) → a ≡ a' → b ≡ b' → c ≡ c' → d ≡ d' → xor a' b' ≡ xor c' d' → xor a b ≡ xor c d
from_four a b c d a' b' c' d' e f g h i = ap₂ xor e f ∙ i ∙ sym (ap₂ xor g h)

-- an edge that does not go down
module _ (py xy uy vy ep ex ou ov : ℤ) (rises : py ≤ℤ xy) (climbs : uy ≤ℤ vy)
    (at_u : (xy -ℤ uy) *ℤ ep +ℤ (uy -ℤ py) *ℤ ex ≡ pos 0 -ℤ (vy -ℤ uy) *ℤ ou)
    (at_v : (xy -ℤ vy) *ℤ ep +ℤ (vy -ℤ py) *ℤ ex ≡ pos 0 -ℤ (vy -ℤ uy) *ℤ ov)
    (at_p : (vy -ℤ py) *ℤ ou +ℤ (py -ℤ uy) *ℤ ov ≡ pos 0 -ℤ (xy -ℤ py) *ℤ ep)
    (at_x : (vy -ℤ xy) *ℤ ou +ℤ (xy -ℤ uy) *ℤ ov ≡ pos 0 -ℤ (xy -ℤ py) *ℤ ex)
    (aside : Apart ep ex ou ov) where
  flip_up : xor (right_of py uy vy ep) (right_of xy uy vy ex) ≡ xor (in_region py xy uy ou) (in_region py xy vy ov)
  flip_up =
      by_lt_z py uy
      (λ above_u. by_lt_z xy uy
      (λ high_u. from_four _ _ _ _ false false false false
      (right_above py uy vy ep above_u (omega (arith, ints))) (right_above xy uy vy ex high_u (omega (arith, ints)))
      (region_high py xy uy ou above_u high_u) (region_high py xy vy ov (omega (arith, ints)) (omega (arith, ints)))
      refl)
      (λ mid_u. by_lt_z xy vy
      (λ high_v. from_four _ _ _ _ false (int_lt (pos 0) ex) (int_lt ou (pos 0)) false
      (right_above py uy vy ep above_u (omega (arith, ints))) (right_in xy uy vy ex mid_u high_v)
      (region_mid py xy uy ou above_u mid_u) (region_high py xy vy ov (omega (arith, ints)) high_v)
      (xor_comm false (int_lt (pos 0) ex)
      ∙ ap (λ a. xor a false)
      (leaves py xy uy vy ep ex ou ov rises climbs at_u at_v at_p at_x above_u mid_u high_v aside)))
      (λ mid_v. from_four _ _ _ _ false false (int_lt ou (pos 0)) (int_lt ov (pos 0))
      (right_above py uy vy ep above_u (omega (arith, ints))) (right_below xy uy vy ex mid_u mid_v)
      (region_mid py xy uy ou above_u mid_u) (region_mid py xy vy ov (omega (arith, ints)) mid_v)
      (sym (ap (λ a. xor (int_lt ou (pos 0)) a)
      (sym (within py xy uy vy ep ex ou ov rises climbs at_u at_v at_p at_x above_u mid_v aside))
      ∙ xor_self (int_lt ou (pos 0))) ∙ refl))))
      (λ low_u. by_lt_z py vy
      (λ above_v. by_lt_z xy vy
      (λ high_v. from_four _ _ _ _ (int_lt (pos 0) ep) (int_lt (pos 0) ex) false false
      (right_in py uy vy ep low_u above_v) (right_in xy uy vy ex (omega (arith, ints)) high_v)
      (region_low py xy uy ou low_u) (region_high py xy vy ov above_v high_v)
      (ap (λ a. xor a (int_lt (pos 0) ex))
      (passes py xy uy vy ep ex ou ov rises climbs at_u at_v at_p at_x low_u high_v aside)
      ∙ xor_self (int_lt (pos 0) ex) ∙ sym (xor_self false)))
      (λ mid_v. from_four _ _ _ _ (int_lt (pos 0) ep) false false (int_lt ov (pos 0))
      (right_in py uy vy ep low_u above_v) (right_below xy uy vy ex (omega (arith, ints)) mid_v)
      (region_low py xy uy ou low_u) (region_mid py xy vy ov above_v mid_v)
      (ap (λ a. xor a false) (enters py xy uy vy ep ex ou ov rises climbs at_u at_v at_p at_x low_u above_v mid_v aside)
      ∙ xor_comm (int_lt ov (pos 0)) false)))
      (λ low_v. from_four _ _ _ _ false false false false
      (right_below py uy vy ep low_u low_v) (right_below xy uy vy ex (omega (arith, ints)) (omega (arith, ints)))
      (region_low py xy uy ou low_u) (region_low py xy vy ov low_v) refl))

-- ---- an edge either way, and a segment either way
right_swapped : (y uy vy e e' : ℤ) → e' ≡ pos 0 -ℤ e → right_of y uy vy e ≡ right_of y vy uy e'
right_swapped y uy vy e e' h =
    by_lt_z y uy
    (λ a. by_lt_z y vy (λ b. right_above y uy vy e a b ∙ sym (right_above y vy uy e' b a))
    (λ b. right_down y uy vy e a b ∙ sym (right_in y vy uy e' b a ∙ turn e e' h)))
    (λ a. by_lt_z y vy (λ b. right_in y uy vy e a b ∙ sym (right_down y vy uy e' b a ∙ turn_back e e' h))
    (λ b. right_below y uy vy e a b ∙ sym (right_below y vy uy e' b a)))
  where
    turn : (e e' : ℤ) → e' ≡ pos 0 -ℤ e → int_lt (pos 0) e' ≡ int_lt e (pos 0)
    turn e e' h =
        by_lt_z e (pos 0) (λ l. lt_yes (pos 0) e' (omega (arith, ints)) ∙ sym (lt_yes e (pos 0) l))
        (λ l. lt_no (pos 0) e' (omega (arith, ints)) ∙ sym (lt_no e (pos 0) l))

    turn_back : (e e' : ℤ) → e' ≡ pos 0 -ℤ e → int_lt e' (pos 0) ≡ int_lt (pos 0) e
    turn_back e e' h =
        by_lt_z (pos 0) e (λ l. lt_yes e' (pos 0) (omega (arith, ints)) ∙ sym (lt_yes (pos 0) e l))
        (λ l. lt_no e' (pos 0) (omega (arith, ints)) ∙ sym (lt_no (pos 0) e l))

same_turned : (a b a' b' : ℤ) → a' ≡ pos 0 -ℤ a → b' ≡ pos 0 -ℤ b → SameSign a b → SameSign a' b'
same_turned a b a' b' e f (above h k) = below (omega (arith, ints)) (omega (arith, ints))
same_turned a b a' b' e f (below h k) = above (omega (arith, ints)) (omega (arith, ints))

-- the edge from V to U
apart_swapped : (ep ex ou ov ep' ex' : ℤ) → ep' ≡ pos 0 -ℤ ep → ex' ≡ pos 0 -ℤ ex → Apart ep ex ou ov
    → Apart ep' ex' ov ou
apart_swapped ep ex ou ov ep' ex' e f (edge_aside s) = edge_aside (other_sign ou ov s)
apart_swapped ep ex ou ov ep' ex' e f (way_aside s) = way_aside (same_turned ep ex ep' ex' e f s)
apart_swapped ep ex ou ov ep' ex' e f (parallel h k) = parallel (e ∙ ap (λ z. pos 0 -ℤ z) h ∙ sym f) (sym k)

-- the segment from X to P
apart_reversed : (ep ex ou ov ou' ov' : ℤ) → ou' ≡ pos 0 -ℤ ou → ov' ≡ pos 0 -ℤ ov → Apart ep ex ou ov
    → Apart ex ep ou' ov'
apart_reversed ep ex ou ov ou' ov' e f (edge_aside s) = edge_aside (same_turned ou ov ou' ov' e f s)
apart_reversed ep ex ou ov ou' ov' e f (way_aside s) = way_aside (other_sign ep ex s)
apart_reversed ep ex ou ov ou' ov' e f (parallel h k) = parallel (sym h) (e ∙ ap (λ z. pos 0 -ℤ z) k ∙ sym f)

side_swapped : (ux uy vx vy px py : ℤ) → edge_side vx vy ux uy px py ≡ pos 0 -ℤ edge_side ux uy vx vy px py
side_swapped ux uy vx vy px py =
    ring (ux ∷ uy ∷ vx ∷ vy ∷ px ∷ py ∷ []) (sideE x2 x3 x0 x1 x4 x5) (lit 0 ⊖ sideE x0 x1 x2 x3 x4 x5) tt

weaken : (a b : ℤ) → a <ℤ b → a ≤ℤ b
weaken a b h = omega (arith, ints)

-- the region right of the segment from p to x, whichever of the two is higher
abbrev region : Point → Point → Point → Bool
region p x v =
    cond (int_le p.y x.y) (in_region p.y x.y v.y (edge_side p.x p.y x.x x.y v.x v.y))
    (in_region x.y p.y v.y (edge_side x.x x.y p.x p.y v.x v.y))

abbrev link : Point → Point → Segment
link u v = record { from = u; to = v }

flip_rising : (p x u v : Point) → p.y ≤ℤ x.y
    → Apart (edge_side u.x u.y v.x v.y p.x p.y) (edge_side u.x u.y v.x v.y x.x x.y) (edge_side p.x p.y x.x x.y u.x u.y)
    (edge_side p.x p.y x.x x.y v.x v.y) →
    xor (is_right p (link u v)) (is_right x (link u v))
    ≡ xor (in_region p.y x.y u.y (edge_side p.x p.y x.x x.y u.x u.y))
    (in_region p.y x.y v.y (edge_side p.x p.y x.x x.y v.x v.y))
flip_rising p x u v rises aside =
    by_lt_z v.y u.y
    (λ l.
    ap₂ xor (right_swapped p.y u.y v.y (edge_side u.x u.y v.x v.y p.x p.y) (edge_side v.x v.y u.x u.y p.x p.y)
    (side_swapped u.x u.y v.x v.y p.x p.y))
    (right_swapped x.y u.y v.y (edge_side u.x u.y v.x v.y x.x x.y) (edge_side v.x v.y u.x u.y x.x x.y)
    (side_swapped u.x u.y v.x v.y x.x x.y))
    ∙ flip_up p.y x.y v.y u.y _ _ _ _ rises (weaken v.y u.y l)
    (u_identity p.x p.y x.x x.y v.x v.y u.x u.y) (v_identity p.x p.y x.x x.y v.x v.y u.x u.y)
    (p_identity p.x p.y x.x x.y v.x v.y u.x u.y) (x_identity p.x p.y x.x x.y v.x v.y u.x u.y)
    (apart_swapped _ _ _ _ _ _ (side_swapped u.x u.y v.x v.y p.x p.y) (side_swapped u.x u.y v.x v.y x.x x.y) aside)
    ∙ xor_comm (in_region p.y x.y v.y (edge_side p.x p.y x.x x.y v.x v.y))
    (in_region p.y x.y u.y (edge_side p.x p.y x.x x.y u.x u.y)))
    (λ l. flip_up p.y x.y u.y v.y _ _ _ _ rises l
    (u_identity p.x p.y x.x x.y u.x u.y v.x v.y) (v_identity p.x p.y x.x x.y u.x u.y v.x v.y)
    (p_identity p.x p.y x.x x.y u.x u.y v.x v.y) (x_identity p.x p.y x.x x.y u.x u.y v.x v.y) aside)

-- one edge: what it counts for P and for X differs by what its corners count in the region
pub flip : (p x u v : Point) → ¬ (Cross p x u v) → xor (is_right p (link u v)) (is_right x (link u v))
    ≡ xor (region p x u) (region p x v)
flip p x u v none =
    by_lt_z x.y p.y
    (λ l.
    xor_comm (is_right p (link u v)) (is_right x (link u v))
    ∙ flip_rising x p u v (weaken x.y p.y l)
    (apart_reversed _ _ _ _ _ _ (side_swapped p.x p.y x.x x.y u.x u.y) (side_swapped p.x p.y x.x x.y v.x v.y)
    (apart_points p x u v none))
    ∙ sym (ap₂ xor (falls l u) (falls l v)))
    (λ l. flip_rising p x u v l (apart_points p x u v none) ∙ sym (ap₂ xor (climbs l u) (climbs l v)))
  where
    falls : x.y <ℤ p.y → (w : Point) → region p x w ≡ in_region x.y p.y w.y (edge_side x.x x.y p.x p.y w.x w.y)
    falls l w = ap
        (λ b. cond b (in_region p.y x.y w.y (edge_side p.x p.y x.x x.y w.x w.y))
        (in_region x.y p.y w.y (edge_side x.x x.y p.x p.y w.x w.y))) (le_no p.y x.y l)

    climbs : p.y ≤ℤ x.y → (w : Point) → region p x w ≡ in_region p.y x.y w.y (edge_side p.x p.y x.x x.y w.x w.y)
    climbs l w =
        ap (λ b. cond b (in_region p.y x.y w.y (edge_side p.x p.y x.x x.y w.x w.y))
        (in_region x.y p.y w.y (edge_side x.x x.y p.x p.y w.x w.y))) (le_yes p.y x.y l)

-- ---- round a path
abbrev pub odd : (Segment → Bool) → List Segment → Bool
odd f [] = false
odd f (g ∷ gs) = xor (f g) (odd f gs)

-- none of the links meets the segment from p to x
abbrev pub NoneCross : Point → Point → Point → List Point → Type 0
NoneCross p x u [] = Unit {0}
NoneCross p x u (v ∷ vs) = ¬ (Cross p x u v) × NoneCross p x v vs

round : (p x u : Point) (vs : List Point) → NoneCross p x u vs
    → xor (odd (is_right p) (links u vs)) (odd (is_right x) (links u vs))
    ≡ xor (region p x u) (region p x (last_of u vs))
round p x u [] h = sym (xor_self (region p x u))
round p x u (v ∷ vs) h =
    xor_pairs (is_right p (link u v)) (odd (is_right p) (links v vs)) (is_right x (link u v))
    (odd (is_right x) (links v vs))
    ∙ ap₂ xor (flip p x u v h.0) (round p x v vs h.1)
    ∙ xor_through (region p x u) (region p x v) (region p x (last_of v vs))

same_if : (a b : Bool) → xor a b ≡ false → a ≡ b
same_if true true e = refl
same_if true false e = e
same_if false true e = sym e
same_if false false e = refl

-- a closed path that the segment doesn't meet is crossed equally often, up to an even number, by the rays from both
-- ends
pub same_parity : (p x u : Point) (vs : List Point) → last_of u vs ≡ u → NoneCross p x u vs
    → odd (is_right p) (links u vs) ≡ odd (is_right x) (links u vs)
same_parity p x u vs closed h =
    same_if (odd (is_right p) (links u vs)) (odd (is_right x) (links u vs))
    (round p x u vs h ∙ ap (λ w. xor (region p x u) (region p x w)) closed ∙ xor_self (region p x u))
