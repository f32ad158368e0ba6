-- A chain that begins outside an area and keeps a distance from it has no rational point inside.
use Rattle.std.proofs.Common.{◌≡◌, ℕ, ◌+◌, ◌*◌, ◌-◌, ◌%◌, ◌<◌, ◌≤◌, List, [], ◌∷◌, ◌++◌, map, All, ℤ, pos, ◌+ℤ◌, ◌-ℤ◌}
use Rattle.std.proofs.Common.{◌*ℤ◌, ◌≤ℤ◌, ◌<ℤ◌, int_lt, int_le, ◌&&◌, Bool, true, false, cond, not, count_by, refl, sym}
use Rattle.std.proofs.Common.{ap, ap₂, ◌∙◌, subst, arith, mul-pos, mul-le-mul, le_refl}
use Rattle.std.proofs.lemmas.Int.{ints, by_lt_z}
use Rattle.std.proofs.lemmas.List.Elements.{All-nil, All-cons, All-head, All-tail, All-append}
use borrow.Author.Differences.{true_is_lt, false_is_lt, true_is_le, false_is_le}
use Rattle.geo_kernel.specs.declared.point.Point.{Point}
use Rattle.geo_kernel.specs.declared.spine.Spine.{Spine}
use Rattle.geo_kernel.specs.declared.spine.Spine.TheVariants.{Chain, Area}
use Rattle.geo_kernel.specs.Plane.{apart, distance_at, squared, SegmentsKeep}
use Rattle.geo_kernel.specs.Nearest.{Cross}
use Rattle.geo_kernel.specs.Spine.{Segment, links, last_of, loop_segments, area_segments, chain_segments, Keeps}
use Rattle.geo_kernel.specs.Spine.{is_right, IsInside, SpinesKeep}
use Rattle.geo_kernel.specs.Solid.{stretched, point_at, IsOutside, IsSimple, StaysOutside}
use Rattle.geo_kernel.proofs.Ring.{ring, lit, ◌⊕◌, ◌⊖◌, ◌⊗◌, x0, x1, x2, x3, x4, x5, x6, x7, x8}
use Rattle.geo_kernel.proofs.Order.{scale, cancel}
use Rattle.geo_kernel.proofs.Segments.{cross_touches, less}
use Rattle.geo_kernel.proofs.Paths.{bit, count_first, All-append_first, All-append_second}
use Rattle.geo_kernel.proofs.Parity.{xor, odd, NoneCross, same_parity}

-- ---- a part of a segment and an edge, n times as large, do not meet
apart_stretched : (big n s i t : ℕ) (p q u v : ℤ) → s ≤ big → t ≤ big → i ≤ n →
    apart big s t (pos n *ℤ p) (pos (n - i) *ℤ p +ℤ pos i *ℤ q) (pos n *ℤ u) (pos n *ℤ v)
    ≡ apart (big * n) (s * i) (t * n) p q u v
apart_stretched big n s i t p q u v h k l =
    let si : s * i ≤ big * n = mul-le-mul h l in
    let tn : t * n ≤ big * n = mul-le-mul k (le_refl n) in
    rw (less big s h, less big t k, less n i l, less (big * n) (s * i) si, less (big * n) (t * n) tn)
    (ring (pos big ∷ pos n ∷ pos s ∷ pos i ∷ pos t ∷ p ∷ q ∷ u ∷ v ∷ [])
    (((x0 ⊖ x2) ⊗ (x1 ⊗ x5) ⊕ x2 ⊗ ((x1 ⊖ x3) ⊗ x5 ⊕ x3 ⊗ x6)) ⊖ ((x0 ⊖ x4) ⊗ (x1 ⊗ x7) ⊕ x4 ⊗ (x1 ⊗ x8)))
    (((x0 ⊗ x1 ⊖ x2 ⊗ x3) ⊗ x5 ⊕ (x2 ⊗ x3) ⊗ x6) ⊖ ((x0 ⊗ x1 ⊖ x4 ⊗ x1) ⊗ x7 ⊕ (x4 ⊗ x1) ⊗ x8)) tt)

no_cross : (g : Segment) (u v : Point) (k n i : ℕ) → 0 < k → 0 < n → i ≤ n → SegmentsKeep g.from g.to u v k
    → ¬ (Cross (stretched n g.from) (point_at n i g) (stretched n u) (stretched n v))
no_cross g u v k n i some positive l keeps x =
    let t = cross_touches (stretched n g.from) (point_at n i g) (stretched n u) (stretched n v) 0 x in
    let si : t.s * i ≤ t.n * n = mul-le-mul t.s_within l in
    let tn : t.t * n ≤ t.n * n = mul-le-mul t.t_within (le_refl n) in
    let kept = keeps.keep (t.n * n) (t.s * i) (t.t * n) (mul-pos t.some positive) si tn in
    let e : distance_at t.n t.s t.t (stretched n g.from) (point_at n i g) (stretched n u) (stretched n v)
    ≡ distance_at (t.n * n) (t.s * i) (t.t * n) g.from g.to u v =
    ap₂ squared (apart_stretched t.n n t.s i t.t g.from.x g.to.x u.x v.x t.s_within t.t_within l)
    (apart_stretched t.n n t.s i t.t g.from.y g.to.y u.y v.y t.s_within t.t_within l) in
    let big = mul-pos (mul-pos some some) (mul-pos (mul-pos t.some positive) (mul-pos t.some positive)) in
    clash (k * k * (t.n * n * (t.n * n))) (t.n * t.n) _ _ kept t.touch e big
  where
    clash : (m z : ℕ) (d e : ℤ) → pos m ≤ℤ (pos 4 *ℤ d) → (pos 4 *ℤ e) ≤ℤ pos (0 * 0 * z) → e ≡ d → 0 < m → ⊥
    clash m z d e h k f p = omega (arith, ints)

-- ---- parities of joined lists
xor_assoc : (a b c : Bool) → xor (xor a b) c ≡ xor a (xor b c)
xor_assoc true true c = twice c
  where
    twice : (c : Bool) → c ≡ xor true (xor true c)
    twice true = refl
    twice false = refl
xor_assoc true false c = refl
xor_assoc false b c = refl

pub odd-append : (f : Segment → Bool) (xs ys : List Segment) → odd f (xs ++ ys) ≡ xor (odd f xs) (odd f ys)
odd-append f [] ys = refl
odd-append f (x ∷ xs) ys = ap (xor (f x)) (odd-append f xs ys) ∙ sym (xor_assoc (f x) (odd f xs) (odd f ys))

bit_more : (a b : Bool) (n : ℕ) → n % 2 ≡ bit b → (cond a 1 0 + n) % 2 ≡ bit (xor a b)
bit_more true true n e = omega arith
bit_more true false n e = omega arith
bit_more false true n e = omega arith
bit_more false false n e = omega arith

pub count_odd : (f : Segment → Bool) (gs : List Segment) → count_by f gs % 2 ≡ bit (odd f gs)
count_odd f [] = refl
count_odd f (g ∷ gs) = ap (λ n. n % 2) (count_first f g gs) ∙ bit_more (f g) (odd f gs) (count_by f gs) (count_odd f gs)

pub told_by_odd : (f h : Segment → Bool) (gs hs : List Segment) → odd f gs ≡ odd h hs → (count_by f gs % 2 ≡ 1)
    → (count_by h hs % 2 ≡ 1)
told_by_odd f h gs hs e c = count_odd h hs ∙ ap bit (sym e) ∙ sym (count_odd f gs) ∙ c

-- ---- n times the links
pub last_of-map : (f : Point → Point) (p : Point) (ps : List Point) → last_of (f p) (map f ps) ≡ f (last_of p ps)
last_of-map f p [] = refl
last_of-map f p (q ∷ qs) = last_of-map f q qs

module _ (g : Segment) (k n i : ℕ) (some : 0 < k) (positive : 0 < n) (l : i ≤ n) where
  none_cross : (u : Point) (vs : List Point) → All (Keeps k g) (links u vs)
      → NoneCross (stretched n g.from) (point_at n i g) (stretched n u) (map (stretched n) vs)
  none_cross u [] h = tt
  none_cross u (v ∷ vs) h = (
    no_cross g u v k n i some positive l (All-head (Keeps k g) (record { from = u; to = v }) (links v vs) h),
    none_cross v vs (All-tail (Keeps k g) (record { from = u; to = v }) (links v vs) h),
  )

  loop_same : (loop : List Point) → All (Keeps k g) (loop_segments loop) →
      odd (is_right (stretched n g.from)) (loop_segments (map (stretched n) loop))
      ≡ odd (is_right (point_at n i g)) (loop_segments (map (stretched n) loop))
  loop_same [] h = refl
  loop_same (q ∷ qs) h =
      let P : Point → Type 0 = λ r. odd (is_right (stretched n g.from)) (links r (map (stretched n) (q ∷ qs)))
      ≡ odd (is_right (point_at n i g)) (links r (map (stretched n) (q ∷ qs))) in
      subst P (sym (last_of-map (stretched n) q qs))
      (same_parity (stretched n g.from) (point_at n i g) (stretched n (last_of q qs)) (map (stretched n) (q ∷ qs))
      (last_of-map (stretched n) q qs) (none_cross (last_of q qs) (q ∷ qs) h))

  pub area_same : (loops : List (List Point)) → All (Keeps k g) (area_segments loops) →
      odd (is_right (stretched n g.from)) (area_segments (map (map (stretched n)) loops))
      ≡ odd (is_right (point_at n i g)) (area_segments (map (map (stretched n)) loops))
  area_same [] h = refl
  area_same (loop ∷ loops) h =
      odd-append (is_right (stretched n g.from)) (loop_segments (map (stretched n) loop))
      (area_segments (map (map (stretched n)) loops))
      ∙ ap₂ xor (loop_same loop (All-append_first (Keeps k g) (loop_segments loop) (area_segments loops) h))
      (area_same loops (All-append_second (Keeps k g) (loop_segments loop) (area_segments loops) h))
      ∙ sym (odd-append (is_right (point_at n i g)) (loop_segments (map (stretched n) loop))
      (area_segments (map (map (stretched n)) loops)))

-- ---- a point counts the same n times as large
module _ (n : ℕ) (positive : 0 < n) where
  some_n : pos 0 <ℤ pos n
  some_n = omega (arith, ints)

  lt_stretched : (a b : ℤ) → int_lt (pos n *ℤ a) (pos n *ℤ b) ≡ int_lt a b
  lt_stretched a b =
      by_lt_z a b
      (λ l. yes_lt _ _ (strict a b l) ∙ sym (yes_lt a b l))
      (λ l. no_lt _ _ (scale (pos n) b a (weak n) l) ∙ sym (no_lt a b l))
    where
      weak : (n : ℕ) → pos 0 ≤ℤ pos n
      weak n = omega (arith, ints)

      yes_lt : (a b : ℤ) → a <ℤ b → int_lt a b ≡ true
      yes_lt a b h = sym (true_is_lt a b (omega (arith, ints)))

      no_lt : (a b : ℤ) → b ≤ℤ a → int_lt a b ≡ false
      no_lt a b h = sym (false_is_lt a b (omega (arith, ints)))

      clash : (a b : ℤ) → a <ℤ b → b ≤ℤ a → ⊥
      clash a b h k = omega (arith, ints)

      strict : (a b : ℤ) → a <ℤ b → (pos n *ℤ a) <ℤ (pos n *ℤ b)
      strict a b h =
          by_lt_z (pos n *ℤ a) (pos n *ℤ b) (λ l. l) (λ l. absurd (clash a b h (cancel (pos n) b a some_n l)))

  le_stretched : (a b : ℤ) → int_le (pos n *ℤ a) (pos n *ℤ b) ≡ int_le a b
  le_stretched a b = turned (pos n *ℤ a) (pos n *ℤ b) ∙ ap not (lt_stretched b a) ∙ sym (turned a b)
    where
      turned : (a b : ℤ) → int_le a b ≡ not (int_lt b a)
      turned a b =
          by_lt_z b a (λ l. no_le a b l ∙ sym (ap not (yes_lt b a l))) (λ l. yes_le a b l ∙ sym (ap not (no_lt b a l)))
        where
          yes_lt : (a b : ℤ) → a <ℤ b → int_lt a b ≡ true
          yes_lt a b h = sym (true_is_lt a b (omega (arith, ints)))

          no_lt : (a b : ℤ) → b ≤ℤ a → int_lt a b ≡ false
          no_lt a b h = sym (false_is_lt a b (omega (arith, ints)))

          yes_le : (a b : ℤ) → a ≤ℤ b → int_le a b ≡ true
          yes_le a b h = sym (true_is_le a b (omega (arith, ints)))

          no_le : (a b : ℤ) → b <ℤ a → int_le a b ≡ false
          no_le a b h = sym (false_is_le a b (omega (arith, ints)))

  turn_stretched : (px py fx fy tx ty : ℤ) →
      (pos n *ℤ tx -ℤ pos n *ℤ fx) *ℤ (pos n *ℤ py -ℤ pos n *ℤ fy) -ℤ (pos n *ℤ ty -ℤ pos n *ℤ fy) *ℤ
      (pos n *ℤ px -ℤ pos n *ℤ fx)
      ≡ pos n *ℤ (pos n *ℤ ((tx -ℤ fx) *ℤ (py -ℤ fy) -ℤ (ty -ℤ fy) *ℤ (px -ℤ fx)))
  turn_stretched px py fx fy tx ty = ring (pos n ∷ px ∷ py ∷ fx ∷ fy ∷ tx ∷ ty ∷ [])
      ((x0 ⊗ x5 ⊖ x0 ⊗ x3) ⊗ (x0 ⊗ x2 ⊖ x0 ⊗ x4) ⊖ (x0 ⊗ x6 ⊖ x0 ⊗ x4) ⊗ (x0 ⊗ x1 ⊖ x0 ⊗ x3))
      (x0 ⊗ (x0 ⊗ ((x5 ⊖ x3) ⊗ (x2 ⊖ x4) ⊖ (x6 ⊖ x4) ⊗ (x1 ⊖ x3)))) tt

  nil : pos n *ℤ pos 0 ≡ pos 0
  nil = omega (arith, ints)

  above_stretched : (z : ℤ) → int_lt (pos 0) (pos n *ℤ (pos n *ℤ z)) ≡ int_lt (pos 0) z
  above_stretched z = ap (λ o. int_lt o (pos n *ℤ (pos n *ℤ z))) (sym nil) ∙ lt_stretched (pos 0) (pos n *ℤ z)
      ∙ ap (λ o. int_lt o (pos n *ℤ z)) (sym nil) ∙ lt_stretched (pos 0) z

  below_stretched : (z : ℤ) → int_lt (pos n *ℤ (pos n *ℤ z)) (pos 0) ≡ int_lt z (pos 0)
  below_stretched z = ap (λ o. int_lt (pos n *ℤ (pos n *ℤ z)) o) (sym nil) ∙ lt_stretched (pos n *ℤ z) (pos 0)
      ∙ ap (λ o. int_lt (pos n *ℤ z) o) (sym nil) ∙ lt_stretched z (pos 0)

  same_test : (a b c d e f g h i j : Bool) → a ≡ f → b ≡ g → c ≡ h → d ≡ i → e ≡ j
      → cond a (b && c) (d && e) ≡ cond f (g && h) (i && j)
  same_test a b c d e f g h i j p q r s t = cc

  pub right_stretched : (p u v : Point) → is_right (stretched n p) (record { from = stretched n u; to = stretched n v })
      ≡ is_right p (record { from = u; to = v })
  right_stretched p u v =
      same_test _ _ _ _ _ _ _ _ _ _ (le_stretched u.y p.y) (lt_stretched p.y v.y)
      (ap (int_lt (pos 0)) (turn_stretched p.x p.y u.x u.y v.x v.y)
      ∙ above_stretched ((v.x -ℤ u.x) *ℤ (p.y -ℤ u.y) -ℤ (v.y -ℤ u.y) *ℤ (p.x -ℤ u.x)))
      (le_stretched v.y p.y)
      (ap (λ z. int_lt z (pos 0)) (turn_stretched p.x p.y u.x u.y v.x v.y)
      ∙ below_stretched ((v.x -ℤ u.x) *ℤ (p.y -ℤ u.y) -ℤ (v.y -ℤ u.y) *ℤ (p.x -ℤ u.x)))

  links_stretched : (p u : Point) (vs : List Point)
      → odd (is_right (stretched n p)) (links (stretched n u) (map (stretched n) vs)) ≡ odd (is_right p) (links u vs)
  links_stretched p u [] = refl
  links_stretched p u (v ∷ vs) = ap₂ xor (right_stretched p u v) (links_stretched p v vs)

  loop_stretched : (p : Point) (loop : List Point)
      → odd (is_right (stretched n p)) (loop_segments (map (stretched n) loop)) ≡ odd (is_right p) (loop_segments loop)
  loop_stretched p [] = refl
  loop_stretched p (q ∷ qs) =
      ap (λ r. odd (is_right (stretched n p)) (links r (map (stretched n) (q ∷ qs)))) (last_of-map (stretched n) q qs)
      ∙ links_stretched p (last_of q qs) (q ∷ qs)

  pub area_stretched : (p : Point) (loops : List (List Point))
      → odd (is_right (stretched n p)) (area_segments (map (map (stretched n)) loops))
      ≡ odd (is_right p) (area_segments loops)
  area_stretched p [] = refl
  area_stretched p (loop ∷ loops) =
      odd-append (is_right (stretched n p)) (loop_segments (map (stretched n) loop))
      (area_segments (map (map (stretched n)) loops))
      ∙ ap₂ xor (loop_stretched p loop) (area_stretched p loops)
      ∙ sym (odd-append (is_right p) (loop_segments loop) (area_segments loops))

-- ---- along one segment
module _ (loops : List (List Point)) (k : ℕ) (some : 0 < k) where
  outside_along : (g : Segment) → All (Keeps k g) (area_segments loops) → ¬ (IsInside g.from loops) → IsOutside loops g
  outside_along g keeps out n i positive l in_it =
      out (told_by_odd (is_right (point_at n i g)) (is_right g.from) (area_segments (map (map (stretched n)) loops))
      (area_segments loops)
      (sym (area_same g k n i some positive l loops keeps) ∙ area_stretched n positive g.from loops) in_it)

  -- the end of the segment, as its point at 1/1
  pub end_point : (a b : ℤ) → pos 0 *ℤ a +ℤ pos 1 *ℤ b ≡ pos 1 *ℤ b
  end_point a b = ring (a ∷ b ∷ []) (lit 0 ⊗ x0 ⊕ lit 1 ⊗ x1) (lit 1 ⊗ x1) tt

  pub same_point : (x y x' y' : ℤ) → x ≡ x' → y ≡ y' → (let p : Point = record { x = x; y = y } in p)
      ≡ record { x = x'; y = y' }
  same_point x y x' y' e f = cc

  outside_end : (g : Segment) → All (Keeps k g) (area_segments loops) → ¬ (IsInside g.from loops)
      → ¬ (IsInside g.to loops)
  outside_end g keeps out in_it =
      outside_along g keeps out 1 1 (omega arith) (omega arith)
      (told_by_odd (is_right g.to) (is_right (point_at 1 1 g)) (area_segments loops)
      (area_segments (map (map (stretched 1)) loops))
      (sym (area_stretched 1 (omega arith) g.to loops)
      ∙ ap (λ p. odd (is_right p) (area_segments (map (map (stretched 1)) loops)))
      (sym (same_point _ _ _ _ (end_point g.from.x g.to.x) (end_point g.from.y g.to.y)))) in_it)

  -- ---- along a path
  path_outside : (u : Point) (vs : List Point) → All (λ g. All (Keeps k g) (area_segments loops)) (links u vs)
      → ¬ (IsInside u loops) → All (IsOutside loops) (links u vs)
  path_outside u [] h out = All-nil (IsOutside loops)
  path_outside u (v ∷ vs) h out =
      let P : Segment → Type 0 = λ g. All (Keeps k g) (area_segments loops) in
      let g : Segment = record { from = u; to = v } in
      let here = All-head P g (links v vs) h in
      All-cons (IsOutside loops) g (links v vs) (outside_along g here out)
      (path_outside v vs (All-tail P g (links v vs) h) (outside_end g here out))

  pub chain_outside : (p : Point) (ps : List Point)
      → All (λ g. All (Keeps k g) (area_segments loops)) (chain_segments (p ∷ ps)) → ¬ (IsInside p loops)
      → All (IsOutside loops) (chain_segments (p ∷ ps))
  chain_outside p [] h out = path_outside p (p ∷ []) h out
  chain_outside p (q ∷ qs) h out = path_outside p (q ∷ qs) h out

  path_end : (u : Point) (vs : List Point) → All (λ g. All (Keeps k g) (area_segments loops)) (links u vs)
      → ¬ (IsInside u loops) → ¬ (IsInside (last_of u vs) loops)
  path_end u [] h out = out
  path_end u (v ∷ vs) h out =
      let P : Segment → Type 0 = λ g. All (Keeps k g) (area_segments loops) in
      let g : Segment = record { from = u; to = v } in
      path_end v vs (All-tail P g (links v vs) h) (outside_end g (All-head P g (links v vs) h) out)

  pub loop_outside : (p : Point) (ps : List Point)
      → All (λ g. All (Keeps k g) (area_segments loops)) (loop_segments (p ∷ ps)) → ¬ (IsInside p loops)
      → All (IsOutside loops) (loop_segments (p ∷ ps))
  loop_outside p ps h out =
      let P : Segment → Type 0 = λ g. All (Keeps k g) (area_segments loops) in
      let g : Segment = record { from = last_of p ps; to = p } in
      let rest = All-tail P g (links p ps) h in
      All-cons (IsOutside loops) g (links p ps) (outside_along g (All-head P g (links p ps) h) (path_end p ps rest out))
      (path_outside p ps rest out)

-- ---- the whole
pub stays_outside : (s t : Spine) (k : ℕ) → 0 < k → IsSimple s → SpinesKeep s t k → StaysOutside s t
stays_outside s (Chain ps) k some simple h = tt
stays_outside (Chain []) (Area loops) k some simple h = All-nil (IsOutside loops)
stays_outside (Chain (p ∷ ps)) (Area loops) k some simple h = chain_outside loops k some p ps h.segments h.s_outside
stays_outside (Area []) (Area loops) k some simple h = absurd simple
stays_outside (Area ([] ∷ [])) (Area loops) k some simple h = All-nil (IsOutside loops)
stays_outside (Area ((p ∷ ps) ∷ [])) (Area loops) k some simple h =
    All-append (IsOutside loops) (loop_segments (p ∷ ps)) []
    (loop_outside loops k some p ps
    (All-append_first (λ g. All (Keeps k g) (area_segments loops)) (loop_segments (p ∷ ps)) [] h.segments)
    h.s_outside) (All-nil (IsOutside loops))
stays_outside (Area (loop ∷ more ∷ rest)) (Area loops) k some simple h = absurd simple
