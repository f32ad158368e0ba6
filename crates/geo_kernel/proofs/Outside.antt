-- A point beyond all vertices of some loops, along one axis, is not inside them: the ray meets no edge, or it meets
-- each loop as often going up as going down.
use Rattle.std.proofs.Common.{◌≡◌, ℕ, ◌%◌, ◌<◌, List, [], ◌∷◌, flat_map, All, ℤ, pos, ◌+ℤ◌, ◌-ℤ◌, ◌*ℤ◌, ◌≤ℤ◌, ◌<ℤ◌, inl}
use Rattle.std.proofs.Common.{inr, int_lt, int_le, Bool, true, false, refl, sym, ap, ap₂, ◌∙◌, arith}
use Rattle.std.proofs.lemmas.Int.{ints, by_lt_z}
use Rattle.std.proofs.lemmas.List.Elements.{All-head, All-tail}
use Rattle.geo_kernel.specs.declared.point.Point.{Point}
use Rattle.geo_kernel.specs.declared.point.Rect4.{Rect4}
use Rattle.geo_kernel.specs.declared.spine.Spine.{Spine}
use Rattle.geo_kernel.specs.declared.spine.Spine.TheVariants.{Chain, Area}
use Rattle.geo_kernel.specs.Spine.{links, last_of, loop_segments, area_segments, outline, is_right, IsInside}
use Rattle.geo_kernel.specs.Spine.{BeginInside, BeginsInside}
use Rattle.geo_kernel.specs.Boxes.{IsIn, IsInBox, IsGap, IsParted}
use Rattle.geo_kernel.proofs.Ring.{ring, lit, ◌⊕◌, ◌⊖◌, ◌⊗◌, x0, x1, x2, x3, x4, x5}
use Rattle.geo_kernel.proofs.Paths.{bit, All-append_first, All-append_second}
use Rattle.geo_kernel.proofs.Parity.{xor, xor_self, xor_through, odd, edge_side, sideE, sum_positive, le_yes, le_no}
use Rattle.geo_kernel.proofs.Parity.{lt_yes, lt_no, right_of, right_in, right_below, right_above, right_down}
use Rattle.geo_kernel.proofs.Solid.{count_odd, odd-append}
use Rattle.geo_kernel.proofs.Ends.{last_has, outline_has}

-- ---- an edge all to the right or all to the left of the point; h is the point's height above the edge's beginning, r
-- that of its end above the point
side_is : (px py ux uy vx vy : ℤ) → edge_side ux uy vx vy px py ≡ (py -ℤ uy) *ℤ (vx -ℤ px) +ℤ (vy -ℤ py) *ℤ (ux -ℤ px)
side_is px py ux uy vx vy =
    ring (px ∷ py ∷ ux ∷ uy ∷ vx ∷ vy ∷ []) (sideE x2 x3 x4 x5 x0 x1) ((x1 ⊖ x3) ⊗ (x4 ⊖ x0) ⊕ (x5 ⊖ x1) ⊗ (x2 ⊖ x0)) tt

turned_is : (px py ux uy vx vy : ℤ) → pos 0 -ℤ edge_side ux uy vx vy px py
    ≡ (py -ℤ vy) *ℤ (ux -ℤ px) +ℤ (uy -ℤ py) *ℤ (vx -ℤ px)
turned_is px py ux uy vx vy =
    ring (px ∷ py ∷ ux ∷ uy ∷ vx ∷ vy ∷ []) (lit 0 ⊖ sideE x2 x3 x4 x5 x0 x1)
    ((x1 ⊖ x5) ⊗ (x2 ⊖ x0) ⊕ (x3 ⊖ x1) ⊗ (x4 ⊖ x0)) tt

up_is : (px py ux uy vx vy : ℤ) → pos 0 -ℤ edge_side ux uy vx vy px py
    ≡ (py -ℤ uy) *ℤ (px -ℤ vx) +ℤ (vy -ℤ py) *ℤ (px -ℤ ux)
up_is px py ux uy vx vy =
    ring (px ∷ py ∷ ux ∷ uy ∷ vx ∷ vy ∷ []) (lit 0 ⊖ sideE x2 x3 x4 x5 x0 x1)
    ((x1 ⊖ x3) ⊗ (x0 ⊖ x4) ⊕ (x5 ⊖ x1) ⊗ (x0 ⊖ x2)) tt

down_is : (px py ux uy vx vy : ℤ) → edge_side ux uy vx vy px py ≡ (py -ℤ vy) *ℤ (px -ℤ ux) +ℤ (uy -ℤ py) *ℤ (px -ℤ vx)
down_is px py ux uy vx vy =
    ring (px ∷ py ∷ ux ∷ uy ∷ vx ∷ vy ∷ []) (sideE x2 x3 x4 x5 x0 x1) ((x1 ⊖ x5) ⊗ (x0 ⊖ x2) ⊕ (x3 ⊖ x1) ⊗ (x0 ⊖ x4)) tt

more : (a b : ℤ) → a <ℤ b → pos 0 <ℤ (b -ℤ a)
more a b h = omega (arith, ints)

weak : (a b : ℤ) → a ≤ℤ b → pos 0 ≤ℤ (b -ℤ a)
weak a b h = omega (arith, ints)

-- e, or its negation, is the positive p
test_up : (e p : ℤ) → e ≡ p → pos 0 <ℤ p → int_lt (pos 0) e ≡ true
test_up e p q h = lt_yes (pos 0) e (omega (arith, ints))

test_down : (e p : ℤ) → pos 0 -ℤ e ≡ p → pos 0 <ℤ p → int_lt e (pos 0) ≡ true
test_down e p q h = lt_yes e (pos 0) (omega (arith, ints))

test_not_up : (e p : ℤ) → pos 0 -ℤ e ≡ p → pos 0 <ℤ p → int_lt (pos 0) e ≡ false
test_not_up e p q h = lt_no (pos 0) e (omega (arith, ints))

test_not_down : (e p : ℤ) → e ≡ p → pos 0 <ℤ p → int_lt e (pos 0) ≡ false
test_not_down e p q h = lt_no e (pos 0) (omega (arith, ints))

module _ (px py ux uy vx vy : ℤ) where
  edge_right : px <ℤ ux → px <ℤ vx → right_of py uy vy (edge_side ux uy vx vy px py) ≡ xor (int_le uy py) (int_le vy py)
  edge_right hu hv =
      let e = edge_side ux uy vx vy px py in
      by_lt_z py uy
      (λ a. by_lt_z py vy
      (λ b. right_above py uy vy e a b ∙ sym (ap₂ xor (le_no uy py a) (le_no vy py b)))
      (λ b. right_down py uy vy e a b ∙ test_down e _ (turned_is px py ux uy vx vy)
      (sum_positive _ _ _ _ (weak vy py b) (more py uy a) (more px ux hu) (more px vx hv))
      ∙ sym (ap₂ xor (le_no uy py a) (le_yes vy py b))))
      (λ a. by_lt_z py vy
      (λ b. right_in py uy vy e a b ∙ test_up e _ (side_is px py ux uy vx vy)
      (sum_positive _ _ _ _ (weak uy py a) (more py vy b) (more px vx hv) (more px ux hu))
      ∙ sym (ap₂ xor (le_yes uy py a) (le_no vy py b)))
      (λ b. right_below py uy vy e a b ∙ sym (ap₂ xor (le_yes uy py a) (le_yes vy py b))))

  edge_left : ux <ℤ px → vx <ℤ px → right_of py uy vy (edge_side ux uy vx vy px py) ≡ false
  edge_left hu hv =
      let e = edge_side ux uy vx vy px py in
      by_lt_z py uy
      (λ a. by_lt_z py vy
      (λ b. right_above py uy vy e a b)
      (λ b. right_down py uy vy e a b ∙ test_not_down e _ (down_is px py ux uy vx vy)
      (sum_positive _ _ _ _ (weak vy py b) (more py uy a) (more ux px hu) (more vx px hv))))
      (λ a. by_lt_z py vy
      (λ b. right_in py uy vy e a b ∙ test_not_up e _ (up_is px py ux uy vx vy)
      (sum_positive _ _ _ _ (weak uy py a) (more py vy b) (more vx px hv) (more ux px hu)))
      (λ b. right_below py uy vy e a b))

-- ---- round closed loops, where an edge counts by what c says of its two ends
module _ (p : Point) (Q : Point → Type 0) (c : Point → Bool) (edge : (u v : Point) → Q u → Q v
    → is_right p (record { from = u; to = v }) ≡ xor (c u) (c v)) where
  round : (u : Point) (vs : List Point) → Q u → All Q vs → odd (is_right p) (links u vs) ≡ xor (c u) (c (last_of u vs))
  round u [] h k = sym (xor_self (c u))
  round u (v ∷ vs) h k =
      let w = All-head Q v vs k in
      ap₂ xor (edge u v h w) (round v vs w (All-tail Q v vs k)) ∙ xor_through (c u) (c v) (c (last_of v vs))

  loop_even : (ps : List Point) → All Q ps → odd (is_right p) (loop_segments ps) ≡ false
  loop_even [] h = refl
  loop_even (q ∷ qs) h = round (last_of q qs) (q ∷ qs) (last_has Q q qs h) h ∙ xor_self (c (last_of q qs))

  area_even : (ls : List (List Point)) → All Q (flat_map (λ l. l) ls) → odd (is_right p) (area_segments ls) ≡ false
  area_even [] h = refl
  area_even (l ∷ ls) h =
      odd-append (is_right p) (loop_segments l) (area_segments ls)
      ∙ ap₂ xor (loop_even l (All-append_first Q l (flat_map (λ x. x) ls) h))
      (area_even ls (All-append_second Q l (flat_map (λ x. x) ls) h))

  outside : (ls : List (List Point)) → All Q (flat_map (λ l. l) ls) → ¬ (IsInside p ls)
  outside ls h x = clash _ (count_odd (is_right p) (area_segments ls)) (area_even ls h) x
    where
      clash : {b : Bool} (n : ℕ) → n % 2 ≡ bit b → b ≡ false → ¬ (n % 2 ≡ 1)
      clash n e f g = absurd (even n (e ∙ ap bit f) g)
        where
          even : (n : ℕ) → n % 2 ≡ 0 → ¬ (n % 2 ≡ 1)
          even n e f = omega arith

-- ---- a point in one of two parted boxes
all-then : {X : Type 0} (P Q : X → Type 0) → ((x : X) → P x → Q x) → (xs : List X) → All P xs → All Q xs
all-then P Q f xs h = λ k d l. f _ (h k d l)

beyond : (hi lo p q : ℤ) (k : ℕ) → IsGap hi lo k → 0 < k → p ≤ℤ hi → lo ≤ℤ q → p <ℤ q
beyond hi lo p q k g some h l = omega (arith, ints)

module _ (A B : Rect4) (k : ℕ) (some : 0 < k) (p : Point) (here : IsIn A p) where
  pub outside_parted : IsParted A B k → (ls : List (List Point)) → All (IsIn B) (flat_map (λ l. l) ls)
      → ¬ (IsInside p ls)
  outside_parted (inl (inl g)) ls h =
      outside p (λ q. p.x <ℤ q.x) (λ q. int_le q.y p.y) (λ u v hu hv. edge_right p.x p.y u.x u.y v.x v.y hu hv) ls
      (all-then (IsIn B) (λ q. p.x <ℤ q.x) (λ q m. beyond A.x1 B.x0 p.x q.x k g some here.right m.left) _ h)
  outside_parted (inl (inr g)) ls h =
      outside p (λ q. q.x <ℤ p.x) (λ q. false) (λ u v hu hv. edge_left p.x p.y u.x u.y v.x v.y hu hv) ls
      (all-then (IsIn B) (λ q. q.x <ℤ p.x) (λ q m. beyond B.x1 A.x0 q.x p.x k g some m.right here.left) _ h)
  outside_parted (inr (inl g)) ls h =
      outside p (λ q. p.y <ℤ q.y) (λ q. false)
      (λ u v hu hv. right_above p.y u.y v.y (edge_side u.x u.y v.x v.y p.x p.y) hu hv) ls
      (all-then (IsIn B) (λ q. p.y <ℤ q.y) (λ q m. beyond A.y1 B.y0 p.y q.y k g some here.top m.bottom) _ h)
  outside_parted (inr (inr g)) ls h =
      outside p (λ q. q.y ≤ℤ p.y) (λ q. false)
      (λ u v hu hv. right_below p.y u.y v.y (edge_side u.x u.y v.x v.y p.x p.y) hu hv) ls
      (all-then (IsIn B) (λ q. q.y ≤ℤ p.y) (λ q m. weaken q.y p.y (beyond B.y1 A.y0 q.y p.y k g some m.top here.bottom))
      _ h)
    where
      weaken : (a b : ℤ) → a <ℤ b → a ≤ℤ b
      weaken a b h = omega (arith, ints)

pub begins_outside : (A B : Rect4) (k : ℕ) → 0 < k → IsParted A B k → (s t : Spine) → IsInBox A s → IsInBox B t
    → ¬ (BeginsInside s t)
begins_outside A B k some g s (Chain ps) hs ht x = x
begins_outside A B k some g s (Area ls) hs ht x = first (outline s) (outline_has (IsIn A) s hs) x
  where
    first : (ps : List Point) → All (IsIn A) ps → ¬ (BeginInside ps ls)
    first [] h x = x
    first (p ∷ ps) h x = outside_parted A B k some p (All-head (IsIn A) p ps h) g ls ht x
