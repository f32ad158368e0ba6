-- What covers a point covers the moved point where it is moved alike.
use Rattle.std.proofs.Common.{◌≡◌, ℕ, ◌≤◌, List, [], ◌∷◌, map, ℤ, pos, ◌+ℤ◌, ◌-ℤ◌, ◌*ℤ◌, ◌≤ℤ◌, ◌<ℤ◌, inl, inr, int_lt}
use Rattle.std.proofs.Common.{int_le, ◌&&◌, Bool, cond, refl, sym, ap, ap₂, ◌∙◌, arith, ⊎_elim}
use Rattle.std.proofs.lemmas.Int.{ints, by_lt_z}
use Rattle.geo_kernel.specs.declared.point.Point.{Point}
use Rattle.geo_kernel.specs.declared.spine.Spine.{Spine}
use Rattle.geo_kernel.specs.declared.spine.Spine.TheVariants.{Chain, Area}
use Rattle.geo_kernel.specs.Plane.{apart, squared, SegmentsTouch}
use Rattle.geo_kernel.specs.Spine.{Segment, area_segments, is_right, Touches, TouchesSome, IsInside}
use Rattle.geo_kernel.specs.Moved.{moved, moved_spine}
use Rattle.geo_kernel.specs.Close.{moved_segment}
use Rattle.geo_kernel.specs.Solid.{IsSimple}
use Rattle.geo_kernel.proofs.Ring.{ring, ◌⊕◌, ◌⊖◌, ◌⊗◌, x0, x1, x2, x3, x4, x5, x6, x7}
use Rattle.geo_kernel.proofs.Segments.{less}
use Rattle.geo_kernel.proofs.Paths.{Any-here, Any-cases, Any-nil}
use Rattle.geo_kernel.proofs.Parity.{xor, odd, le_yes, le_no, lt_yes, lt_no}
use Rattle.geo_kernel.proofs.Moves.{spine_moved, any_moved}
use Rattle.geo_kernel.proofs.Solid.{told_by_odd}
use Rattle.spine_cover.specs.Covering.{CoversBy}

-- ---- inside
le_moved : (a x y : ℤ) → int_le (x +ℤ a) (y +ℤ a) ≡ int_le x y
le_moved a x y =
    by_lt_z y x (λ l. le_no (x +ℤ a) (y +ℤ a) (farther y x a l) ∙ sym (le_no x y l))
    (λ l. le_yes (x +ℤ a) (y +ℤ a) (as_far x y a l) ∙ sym (le_yes x y l))
  where
    farther : (x y a : ℤ) → x <ℤ y → (x +ℤ a) <ℤ (y +ℤ a)
    farther x y a h = omega (arith, ints)

    as_far : (x y a : ℤ) → x ≤ℤ y → (x +ℤ a) ≤ℤ (y +ℤ a)
    as_far x y a h = omega (arith, ints)

lt_moved : (a x y : ℤ) → int_lt (x +ℤ a) (y +ℤ a) ≡ int_lt x y
lt_moved a x y =
    by_lt_z x y (λ l. lt_yes (x +ℤ a) (y +ℤ a) (farther x y a l) ∙ sym (lt_yes x y l))
    (λ l. lt_no (x +ℤ a) (y +ℤ a) (as_far y x a l) ∙ sym (lt_no x y l))
  where
    farther : (x y a : ℤ) → x <ℤ y → (x +ℤ a) <ℤ (y +ℤ a)
    farther x y a h = omega (arith, ints)

    as_far : (x y a : ℤ) → x ≤ℤ y → (x +ℤ a) ≤ℤ (y +ℤ a)
    as_far x y a h = omega (arith, ints)

turn_moved : (a b px py fx fy tx ty : ℤ) →
    ((tx +ℤ a) -ℤ (fx +ℤ a)) *ℤ ((py +ℤ b) -ℤ (fy +ℤ b)) -ℤ ((ty +ℤ b) -ℤ (fy +ℤ b)) *ℤ ((px +ℤ a) -ℤ (fx +ℤ a))
    ≡ (tx -ℤ fx) *ℤ (py -ℤ fy) -ℤ (ty -ℤ fy) *ℤ (px -ℤ fx)
turn_moved a b px py fx fy tx ty = ring (a ∷ b ∷ px ∷ py ∷ fx ∷ fy ∷ tx ∷ ty ∷ [])
    (((x6 ⊕ x0) ⊖ (x4 ⊕ x0)) ⊗ ((x3 ⊕ x1) ⊖ (x5 ⊕ x1)) ⊖ ((x7 ⊕ x1) ⊖ (x5 ⊕ x1)) ⊗ ((x2 ⊕ x0) ⊖ (x4 ⊕ x0)))
    ((x6 ⊖ x4) ⊗ (x3 ⊖ x5) ⊖ (x7 ⊖ x5) ⊗ (x2 ⊖ x4)) tt

same_test : (a b c d e f g h i j : Bool) → a ≡ f → b ≡ g → c ≡ h → d ≡ i → e ≡ j
    → cond a (b && c) (d && e) ≡ cond f (g && h) (i && j)
same_test a b c d e f g h i j p q r s t = cc

module _ (by p : Point) where
  right_moved : (g : Segment) → is_right (moved by p) (moved_segment by g) ≡ is_right p g
  right_moved g =
      let turn = turn_moved by.x by.y p.x p.y g.from.x g.from.y g.to.x g.to.y in
      same_test _ _ _ _ _ _ _ _ _ _ (le_moved by.y g.from.y p.y) (lt_moved by.y p.y g.to.y) (ap (int_lt (pos 0)) turn)
      (le_moved by.y g.to.y p.y) (ap (λ z. int_lt z (pos 0)) turn)

  odd_moved : (gs : List Segment) → odd (is_right (moved by p)) (map (moved_segment by) gs) ≡ odd (is_right p) gs
  odd_moved [] = refl
  odd_moved (g ∷ gs) = ap₂ xor (right_moved g) (odd_moved gs)

  inside_moved : (loops : List (List Point)) → IsInside p loops → IsInside (moved by p) (map (map (moved by)) loops)
  inside_moved loops =
      told_by_odd (is_right p) (is_right (moved by p)) (area_segments loops)
      (area_segments (map (map (moved by)) loops))
      (sym (ap (odd (is_right (moved by p))) (spine_moved by (Area loops)) ∙ odd_moved (area_segments loops)))

-- ---- near
apart_moved : (n s t : ℕ) (e p a b : ℤ) → s ≤ n → t ≤ n → apart n s t (p +ℤ e) (p +ℤ e) (a +ℤ e) (b +ℤ e)
    ≡ apart n s t p p a b
apart_moved n s t e p a b h k = rw (less n s h, less n t k)
    (ring (pos n ∷ pos s ∷ pos t ∷ e ∷ p ∷ a ∷ b ∷ [])
    (((x0 ⊖ x1) ⊗ (x4 ⊕ x3) ⊕ x1 ⊗ (x4 ⊕ x3)) ⊖ ((x0 ⊖ x2) ⊗ (x5 ⊕ x3) ⊕ x2 ⊗ (x6 ⊕ x3)))
    (((x0 ⊖ x1) ⊗ x4 ⊕ x1 ⊗ x4) ⊖ ((x0 ⊖ x2) ⊗ x5 ⊕ x2 ⊗ x6)) tt)

near_moved : (by p a b : Point) (w : ℕ) → SegmentsTouch p p a b w
    → SegmentsTouch (moved by p) (moved by p) (moved by a) (moved by b) w
near_moved by p a b w h = record {
  n = h.n;
  s = h.s;
  t = h.t;
  some = h.some;
  s_within = h.s_within;
  t_within = h.t_within;
  touch = on _ _ _
      (ap₂ squared (apart_moved h.n h.s h.t by.x p.x a.x b.x h.s_within h.t_within)
      (apart_moved h.n h.s h.t by.y p.y a.y b.y h.s_within h.t_within)) h.touch;
}
  where
    on : (x y b : ℤ) → x ≡ y → (pos 4 *ℤ y) ≤ℤ b → (pos 4 *ℤ x) ≤ℤ b
    on x y b e h = omega (arith, ints)

abbrev at_point : Point → Segment
at_point p = record { from = p; to = p }

some_near_moved : (by p : Point) (s : Spine) (w : ℕ) → TouchesSome w s (at_point p)
    → TouchesSome w (moved_spine by s) (at_point (moved by p))
some_near_moved by p s w (i, g, m, e, touch) =
    (any_moved (Touches w (at_point (moved by p))) by s).0 (i, g, m, e, near_moved by p g.from g.to w touch)

pub covers_moved : (by p : Point) (s : Spine) (w : ℕ) → CoversBy p w s → CoversBy (moved by p) w (moved_spine by s)
covers_moved by p s w (inl near) =
    inl (Any-here (TouchesSome w (moved_spine by s)) (at_point (moved by p)) []
    (some_near_moved by p s w
    (⊎_elim (λ h. h) (λ h. absurd (Any-nil (TouchesSome w s) h))
    (Any-cases (TouchesSome w s) (at_point p) [] near))))
covers_moved by p (Chain ps) w (inr (inl h)) = absurd h
covers_moved by p (Area loops) w (inr (inl h)) = inr (inl (inside_moved by p loops h))
covers_moved by p s w (inr (inr h)) = absurd h

pub simple_moved : (by : Point) (s : Spine) → IsSimple s → IsSimple (moved_spine by s)
simple_moved by (Chain ps) h = tt
simple_moved by (Area []) h = h
simple_moved by (Area (loop ∷ [])) h = tt
simple_moved by (Area (loop ∷ more ∷ rest)) h = h
