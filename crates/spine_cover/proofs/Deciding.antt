-- Whether two spines touch is decided: so what can't be that it isn't, is.
use Rattle.std.proofs.Common.{◌≡◌, ℕ, ◌*◌, ◌%◌, ◌⊎◌, inl, inr, ⊎_elim, List, [], ◌∷◌, Any, ℤ, pos, ◌-ℤ◌, ◌*ℤ◌, ◌≤ℤ◌}
use Rattle.std.proofs.Common.{◌<ℤ◌, Bool, true, false, count_by, refl, arith}
use Rattle.std.proofs.lemmas.Int.{ints, by_lt_z}
use Rattle.geo_kernel.specs.declared.point.Point.{Point}
use Rattle.geo_kernel.specs.declared.spine.Spine.{Spine}
use Rattle.geo_kernel.specs.declared.spine.Spine.TheVariants.{Chain, Area}
use Rattle.geo_kernel.specs.Plane.{SegmentsTouch}
use Rattle.geo_kernel.specs.Nearest.{dot, cross, norm, IsNearest, Meets, Cross, EndsTouch}
use Rattle.geo_kernel.specs.Spine.{area_segments, spine_segments, is_right, Touches, TouchesSome, outline, IsInside}
use Rattle.geo_kernel.specs.Spine.{BeginInside, BeginsInside, SpinesTouch}
use Rattle.geo_kernel.proofs.Segments.{at_first, at_second, at_between, touches_by_nearest, cross_touches}
use Rattle.geo_kernel.proofs.Segments.{ends_to_touch, touch_to_ends}
use Rattle.geo_kernel.proofs.Paths.{bit, Any-here, Any-there, Any-cases, Any-nil}
use Rattle.geo_kernel.proofs.Parity.{odd}
use Rattle.geo_kernel.proofs.Solid.{count_odd}

-- ---- a fact or its contrary
abbrev Decided : Type 0 → Type 0
Decided A = A ⊎ ¬ A

told : {A B : Type 0} → (A → B) → (B → A) → Decided A → Decided B
told f g (inl a) = inl (f a)
told f g (inr none) = inr (λ b. none (g b))

both : {A B : Type 0} → Decided A → Decided B → Decided (A × B)
both (inl a) (inl b) = inl (a, b)
both (inl a) (inr none) = inr (λ h. none h.1)
both (inr none) b = inr (λ h. none h.0)

either : {A B : Type 0} → Decided A → Decided B → Decided (A ⊎ B)
either (inl a) b = inl (inl a)
either (inr none) (inl b) = inl (inr b)
either (inr none) (inr neither) = inr (⊎_elim none neither)

some : {X : Type 0} (P : X → Type 0) → ((x : X) → Decided (P x)) → (xs : List X) → Decided (Any P xs)
some P f [] = inr (Any-nil P)
some P f (x ∷ xs) = told (⊎_elim (Any-here P x xs) (Any-there P x xs)) (Any-cases P x xs) (either (f x) (some P f xs))

-- ---- numbers
clash : (a b : ℤ) → a <ℤ b → b ≤ℤ a → ⊥
clash a b h k = omega (arith, ints)

at_most : (a b : ℤ) → Decided (a ≤ℤ b)
at_most a b = by_lt_z b a (λ l. inr (λ h. clash b a l h)) (λ l. inl l)

below : (a b : ℤ) → Decided (a <ℤ b)
below a b = by_lt_z a b (λ l. inl l) (λ l. inr (λ h. clash a b h l))

-- ---- segments
-- the least distance of a point from a segment
record Distance (p c d : Point) : Type 0 where
  above : ℤ
  under : ℤ
  nearest : IsNearest p c d above under

module _ (p c d : Point) where
  abbrev w : Point
  w = record { x = p.x -ℤ c.x; y = p.y -ℤ c.y }

  abbrev v : Point
  v = record { x = d.x -ℤ c.x; y = d.y -ℤ c.y }

  abbrev z : Point
  z = record { x = p.x -ℤ d.x; y = p.y -ℤ d.y }

  abbrev along : ℤ
  along = dot w.x w.y v.x v.y

  abbrev length : ℤ
  length = dot v.x v.y v.x v.y

  abbrev area : ℤ
  area = cross w.x w.y v.x v.y

  distance : Distance p c d
  distance =
      by_lt_z (pos 0) along
      (λ l. by_lt_z along length
      (λ m. record {
        above = area *ℤ area;
        under = length;
        nearest = at_between p c d w v along length refl refl refl refl refl refl area (area *ℤ area) refl l m
            refl;
      })
      (λ m. record {
        above = norm z.x z.y;
        under = pos 1;
        nearest = at_second p c d w v along length refl refl refl refl refl refl z (norm z.x z.y) refl refl m refl;
      }))
      (λ l. record {
        above = norm w.x w.y;
        under = pos 1;
        nearest = at_first p c d w v along length refl refl refl refl refl refl (norm w.x w.y) l refl;
      })

  point_touch : (k : ℕ) → Decided (SegmentsTouch p p c d k)
  point_touch k =
      let q = distance in
      let t = touches_by_nearest p c d k q.above q.under q.nearest in
      told t.0 t.1 (at_most (pos 4 *ℤ q.above) (pos (k * k) *ℤ q.under))

meets : (c g h : ℤ) → Decided (Meets c g h)
meets c g h =
    told
    (λ x. record {
      apart = x.0;
      from_first = x.1.0;
      to_first = x.1.1.0;
      from_second = x.1.1.1.0;
      to_second = x.1.1.1.1;
    })
    (λ m. (m.apart, (m.from_first, (m.to_first, (m.from_second, m.to_second)))))
    (both (below (pos 0) c) (both (at_most (pos 0) g) (both (at_most g c) (both (at_most (pos 0) h) (at_most h c)))))

crosses : (a b c d : Point) → Decided (Cross a b c d)
crosses a b c d = either (meets _ _ _) (meets _ _ _)

ends_touch : (a b c d : Point) (k : ℕ) → Decided (EndsTouch a b c d k)
ends_touch a b c d k =
    either (either (point_touch a c d k) (point_touch b c d k)) (either (point_touch c a b k) (point_touch d a b k))

segments_touch : (a b c d : Point) (k : ℕ) → Decided (SegmentsTouch a b c d k)
segments_touch a b c d k =
    ⊎_elim (λ x. inl (cross_touches a b c d k x))
    (λ none. told (ends_to_touch a b c d k) (touch_to_ends a b c d k none) (ends_touch a b c d k)) (crosses a b c d)

-- ---- spines
inside : (p : Point) (loops : List (List Point)) → Decided (IsInside p loops)
inside p loops =
    by (odd (is_right p) (area_segments loops)) (count_by (is_right p) (area_segments loops) % 2)
    (count_odd (is_right p) (area_segments loops))
  where
    by : (b : Bool) (n : ℕ) → n ≡ bit b → Decided (n ≡ 1)
    by true n e = inl e
    by false n e = inr (λ h. nothing n e h)
      where
        nothing : (n : ℕ) → n ≡ 0 → n ≡ 1 → ⊥
        nothing n e h = omega arith

begins : (s t : Spine) → Decided (BeginsInside s t)
begins s (Chain ps) = inr (λ h. h)
begins s (Area loops) = first (outline s)
  where
    first : (ps : List Point) → Decided (BeginInside ps loops)
    first [] = inr (λ h. h)
    first (p ∷ ps) = inside p loops

spines_touch : (s t : Spine) (k : ℕ) → Decided (SpinesTouch s t k)
spines_touch s t k =
    either (some (TouchesSome k t)
    (λ g. some (Touches k g) (λ h. segments_touch g.from g.to h.from h.to k) (spine_segments t))
    (spine_segments s))
    (either (begins s t) (begins t s))

pub touch_stands : (s t : Spine) (k : ℕ) → ¬ (¬ (SpinesTouch s t k)) → SpinesTouch s t k
touch_stands s t k h = ⊎_elim (λ touch. touch) (λ none. absurd (h none)) (spines_touch s t k)
