-- Two spines in whose copper one point lies touch.
use Rattle.std.proofs.Common.{◌≡◌, ℕ, ◌+◌, ◌*◌, ◌-◌, ◌%◌, ◌≤◌, inl, inr, ⊎_elim, List, [], ◌∷◌, All, Any, ℤ, pos, ◌+ℤ◌}
use Rattle.std.proofs.Common.{◌-ℤ◌, ◌*ℤ◌, ◌≤ℤ◌, refl, sym, ap, ap₂, ◌∙◌, subst, arith, mul-pos, mul-le-mul, le_refl}
use Rattle.std.proofs.lemmas.Int.{ints}
use Rattle.geo_kernel.specs.declared.point.Point.{Point}
use Rattle.geo_kernel.specs.declared.spine.Spine.{Spine}
use Rattle.geo_kernel.specs.declared.spine.Spine.TheVariants.{Chain, Area}
use Rattle.geo_kernel.specs.Plane.{apart, squared, SegmentsTouch}
use Rattle.geo_kernel.specs.Spine.{Segment, spine_segments, Touches, TouchesSome, IsInside, SpinesTouch}
use Rattle.geo_kernel.specs.Solid.{stretched, point_at, IsSimple}
use Rattle.geo_kernel.proofs.Ring.{ring, lit, ◌⊕◌, ◌⊖◌, ◌⊗◌, x0, x1, x2, x3, x4, x5, x6, x7}
use Rattle.geo_kernel.proofs.Order.{scale}
use Rattle.geo_kernel.proofs.Segments.{less}
use Rattle.geo_kernel.proofs.Paths.{Any-cases, Any-nil}
use Rattle.geo_kernel.proofs.Keeping.{touch_symmetric}
use Rattle.spine_cover.specs.Covering.{CoversBy}
use Rattle.spine_cover.proofs.Triangle.{near_both}
use Rattle.spine_cover.proofs.Hits.{Hit, hit_of, met_x, met_y}
use Rattle.spine_cover.proofs.Stretching.{inside_larger, inside_along}
use Rattle.spine_cover.proofs.Apart.{all_clear, apart_outside}
use Rattle.spine_cover.proofs.Deciding.{touch_stands}
use Rattle.spine_cover.proofs.Foremost.{IsOff, both_inside}

-- ---- from p straight to the point at t/n of a segment, n times as large, an edge is hit: along one axis, how far the
-- edge is from that point
on_the_way : (n l s t g h : ℕ) (p a b c d : ℤ) → s ≤ n → t ≤ n → g ≤ l → h ≤ l →
    pos l *ℤ (pos n *ℤ p) +ℤ pos g *ℤ ((pos (n - t) *ℤ a +ℤ pos t *ℤ b) -ℤ pos n *ℤ p)
    ≡ pos l *ℤ (pos n *ℤ c) +ℤ pos h *ℤ (pos n *ℤ d -ℤ pos n *ℤ c) →
    apart (n * l) (t * l) (n * h) a b c d ≡ pos 0 -ℤ pos (l - g) *ℤ apart n s t p p a b
on_the_way n l s t g h p a b c d hs ht hg hh e =
    let tl : t * l ≤ n * l = mul-le-mul ht (le_refl l) in
    let nh : n * h ≤ n * l = mul-le-mul (le_refl n) hh in
    rw (less n s hs, less n t ht, less l g hg, less (n * l) (t * l) tl, less (n * l) (n * h) nh)
    (ring (pos n ∷ pos l ∷ pos t ∷ pos h ∷ a ∷ b ∷ c ∷ d ∷ [])
    (((x0 ⊗ x1 ⊖ x2 ⊗ x1) ⊗ x4 ⊕ (x2 ⊗ x1) ⊗ x5) ⊖ ((x0 ⊗ x1 ⊖ x0 ⊗ x3) ⊗ x6 ⊕ (x0 ⊗ x3) ⊗ x7))
    (x1 ⊗ ((x0 ⊖ x2) ⊗ x4 ⊕ x2 ⊗ x5) ⊖ (x1 ⊗ (x0 ⊗ x6) ⊕ x3 ⊗ (x0 ⊗ x7 ⊖ x0 ⊗ x6))) tt
    ∙ ap (λ z. pos l *ℤ ((pos n -ℤ pos t) *ℤ a +ℤ pos t *ℤ b) -ℤ z) (sym (rw (less n t ht) at e))
    ∙ ring (pos n ∷ pos l ∷ pos s ∷ pos t ∷ pos g ∷ p ∷ a ∷ b ∷ [])
    (x1 ⊗ ((x0 ⊖ x3) ⊗ x6 ⊕ x3 ⊗ x7) ⊖ (x1 ⊗ (x0 ⊗ x5) ⊕ x4 ⊗ (((x0 ⊖ x3) ⊗ x6 ⊕ x3 ⊗ x7) ⊖ x0 ⊗ x5)))
    (lit 0 ⊖ (x1 ⊖ x4) ⊗ (((x0 ⊖ x2) ⊗ x5 ⊕ x2 ⊗ x5) ⊖ ((x0 ⊖ x3) ⊗ x6 ⊕ x3 ⊗ x7))) tt)

-- a part of a vector that is at most w/2 long
part_within : (m l n w v : ℕ) (x y : ℤ) → m ≤ l → (pos 4 *ℤ squared x y) ≤ℤ pos (w * w * (n * n)) →
    (pos 4 *ℤ squared (pos 0 -ℤ pos m *ℤ x) (pos 0 -ℤ pos m *ℤ y)) ≤ℤ pos ((w + v) * (w + v) * (n * l * (n * l)))
part_within m l n w v x y h k =
    let wide : w ≤ w + v = omega arith in
    let bound : m * m * (w * w * (n * n)) ≤ l * l * ((w + v) * (w + v) * (n * n)) =
    mul-le-mul (mul-le-mul h h) (mul-le-mul (mul-le-mul wide wide) (le_refl (n * n))) in
    by _ _ _ (m * m * (w * w * (n * n))) (l * l * ((w + v) * (w + v) * (n * n))) ((w + v) * (w + v) * (n * l * (n * l)))
    (ring (pos m ∷ x ∷ y ∷ []) (lit 4 ⊗ ((lit 0 ⊖ x0 ⊗ x1) ⊗ (lit 0 ⊖ x0 ⊗ x1) ⊕ (lit 0 ⊖ x0 ⊗ x2) ⊗ (lit 0 ⊖ x0 ⊗ x2)))
    ((x0 ⊗ x0) ⊗ (lit 4 ⊗ (x1 ⊗ x1 ⊕ x2 ⊗ x2))) tt)
    (scale (pos (m * m)) (pos 4 *ℤ squared x y) (pos (w * w * (n * n))) (at_least (m * m)) k) refl bound
    (again l (w + v) n)
  where
    at_least : (n : ℕ) → pos 0 ≤ℤ pos n
    at_least n = omega (arith, ints)

    again : (l q n : ℕ) → l * l * (q * q * (n * n)) ≡ q * q * (n * l * (n * l))
    again l q n = omega arith

    by : (a b c : ℤ) (i j r : ℕ) → a ≡ b → b ≤ℤ c → c ≡ pos i → i ≤ j → j ≡ r → a ≤ℤ pos r
    by a b c i j r e h f k g = omega (arith, ints)

-- an edge that is hit there touches the segment
met_on_the_way : (p : Point) (g e : Segment) (w v : ℕ) (near : SegmentsTouch p p g.from g.to w)
    → Hit (stretched near.n p) (point_at near.n near.t g) (stretched near.n e.from) (stretched near.n e.to)
    → Touches (w + v) g e
met_on_the_way p g e w v near h = record {
  n = near.n * h.all;
  s = near.t * h.all;
  t = near.n * h.across;
  some = mul-pos near.some h.some;
  s_within = mul-le-mul near.t_within (le_refl h.all);
  t_within = mul-le-mul (le_refl near.n) h.across_within;
  touch = by _ _ _
      (ap₂ squared
      (on_the_way near.n h.all near.s near.t h.along h.across p.x g.from.x g.to.x e.from.x e.to.x near.s_within
      near.t_within h.along_within h.across_within
      (met_x (stretched near.n p) (point_at near.n near.t g) (stretched near.n e.from) (stretched near.n e.to) h))
      (on_the_way near.n h.all near.s near.t h.along h.across p.y g.from.y g.to.y e.from.y e.to.y near.s_within
      near.t_within h.along_within h.across_within
      (met_y (stretched near.n p) (point_at near.n near.t g) (stretched near.n e.from) (stretched near.n e.to) h)))
      (part_within (h.all - h.along) h.all near.n w v (apart near.n near.s near.t p.x p.x g.from.x g.to.x)
      (apart near.n near.s near.t p.y p.y g.from.y g.to.y) (rest h.all h.along) near.touch);
}
  where
    rest : (l g : ℕ) → l - g ≤ l
    rest l g = omega arith

    by : (x y b : ℤ) → x ≡ y → (pos 4 *ℤ y) ≤ℤ b → (pos 4 *ℤ x) ≤ℤ b
    by x y b e h = omega (arith, ints)

-- ---- p near a segment that is off an area, and inside the area
near_inside : (p : Point) (g : Segment) (loops : List (List Point)) (w v : ℕ) → SegmentsTouch p p g.from g.to w
    → IsOff (w + v) loops g → ¬ (IsInside p loops)
near_inside p g loops w v near off in_it =
    off.0 near.n near.t near.some near.t_within
    (inside_along near.n near.some (stretched near.n p) (point_at near.n near.t g) loops
    (λ i e m x. off.1 i e m
    (met_on_the_way p g _ w v near (hit_of (stretched near.n p) (point_at near.n near.t g) _ _ x)))
    (inside_larger near.n near.some p loops in_it))

-- ---- the two ways to lie in copper: near some segment, or inside
data Lies (p : Point) (w : ℕ) (s : Spine) : Type 0 where
  near_it : Any (λ (g : Segment). SegmentsTouch p p g.from g.to w) (spine_segments s) → Lies p w s
  within : (loops : List (List Point)) → s ≡ Area loops → IsInside p loops → Lies p w s

lies : (p : Point) (w : ℕ) (s : Spine) → CoversBy p w s → Lies p w s
lies p w s (inl near) =
    near_it (⊎_elim (λ h. h) (λ h. absurd (Any-nil (TouchesSome w s) h))
    (Any-cases (TouchesSome w s) (let g : Segment = record { from = p; to = p } in g) [] near))
lies p w (Chain ps) (inr (inl h)) = absurd h
lies p w (Area loops) (inr (inl h)) = within loops refl h
lies p w (Chain ps) (inr (inr h)) = absurd h
lies p w (Area loops) (inr (inr h)) = absurd h

-- each segment of s is off the area
all_off : (s : Spine) (loops : List (List Point)) (k : ℕ) → IsSimple s → ¬ (SpinesTouch s (Area loops) k)
    → All (IsOff k loops) (spine_segments s)
all_off s loops k simple apart =
    λ i g m. (apart_outside s (Area loops) k simple apart i g m, all_clear s (Area loops) k (λ x. apart (inl x)) i g m)

none_near : (p : Point) (s : Spine) (loops : List (List Point)) (w v : ℕ) → IsSimple s
    → ¬ (SpinesTouch s (Area loops) (w + v)) → Any (λ (g : Segment). SegmentsTouch p p g.from g.to w) (spine_segments s)
    → ¬ (IsInside p loops)
none_near p s loops w v simple apart (i, g, m, e, near) =
    near_inside p g loops w v near (subst (IsOff (w + v) loops) e (all_off s loops (w + v) simple apart i g m))

-- two areas of one loop
areas : (p : Point) (loops others : List (List Point)) (k : ℕ) → IsSimple (Area loops) → IsSimple (Area others)
    → IsInside p loops → IsInside p others → ¬ (¬ (SpinesTouch (Area loops) (Area others) k))
areas p [] others k simple simple' h h' apart = simple
areas p ([] ∷ []) others k simple simple' h h' apart = nothing h
  where
    nothing : ¬ (0 % 2 ≡ 1)
    nothing e = omega arith
areas p ((q ∷ qs) ∷ []) others k simple simple' h h' apart =
    both_inside k p q ((q ∷ qs) ∷ []) others (all_off (Area ((q ∷ qs) ∷ [])) others k simple apart)
    (all_off (Area others) ((q ∷ qs) ∷ []) k simple'
    (λ x. apart (touch_symmetric (Area others) (Area ((q ∷ qs) ∷ [])) k x))) h h' (λ x. apart (inr (inl x)))
areas p (loop ∷ more ∷ rest) others k simple simple' h h' apart = simple

add_comm : (w v : ℕ) → v + w ≡ w + v
add_comm w v = omega arith

-- each way with each other: it can't be that they don't touch
both_lie : (p : Point) (s t : Spine) (w v : ℕ) → IsSimple s → IsSimple t → Lies p w s → Lies p v t
    → ¬ (¬ (SpinesTouch s t (w + v)))
both_lie p s t w v simple simple' (near_it (i, g, m, e, near)) (near_it (j, h, l, f, near')) apart =
    apart (inl (i, g, m, e, (j, h, l, f, near_both p g.from g.to h.from h.to w v near near')))
both_lie p s t w v simple simple' (near_it near) (within loops e h) apart =
    none_near p s loops w v simple (subst (λ (x : Spine). ¬ (SpinesTouch s x (w + v))) e apart) near h
both_lie p s t w v simple simple' (within loops e h) (near_it near) apart =
    none_near p t loops v w simple'
    (subst (λ (x : Spine). ¬ (SpinesTouch t x (v + w))) e
    (λ touch. apart (subst (SpinesTouch s t) (add_comm w v) (touch_symmetric t s (v + w) touch)))) near h
both_lie p s t w v simple simple' (within loops e h) (within others f h') apart =
    areas p loops others (w + v) (subst IsSimple e simple) (subst IsSimple f simple') h h'
    (subst (λ (x : Spine). ¬ (SpinesTouch (Area loops) x (w + v))) f
    (subst (λ (x : Spine). ¬ (SpinesTouch x t (w + v))) e apart))

pub covered_touch : (p : Point) (s t : Spine) (w v : ℕ) → IsSimple s → IsSimple t → CoversBy p w s → CoversBy p v t
    → SpinesTouch s t (w + v)
covered_touch p s t w v simple simple' h h' =
    touch_stands s t (w + v) (both_lie p s t w v simple simple' (lies p w s h) (lies p v t h'))
