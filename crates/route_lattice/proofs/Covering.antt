-- Copper that a point touches, and the boxes in which a chain's points lie.
use Rattle.std.proofs.Common.{◌≡◌, ℕ, ℤ, pos, negsuc, ◌-◌, ◌*◌, ◌<◌, ◌≤◌, ◌≤ℤ◌, ◌<ℤ◌, ◌-ℤ◌, ◌*ℤ◌, List, [], ◌∷◌, length}
use Rattle.std.proofs.Common.{Any, ◌↔◌, ◌⊎◌, inl, inr, ⊎_elim, subst, arith}
use Prim.Native.Nat.{zero, suc}
use Rattle.std.specs.Int.{int_min, int_max}
use Rattle.std.proofs.lemmas.Int.{ints, clamps}
use Rattle.std.proofs.Math.Nat.{mul-le-mul_left}
use Rattle.geo_kernel.specs.declared.point.Point.{Point}
use Rattle.geo_kernel.specs.declared.spine.Spine.TheVariants.{Chain, Area}
use Rattle.geo_kernel.specs.Plane.{SegmentsKeep, SegmentsTouch}
use Rattle.geo_kernel.specs.Boxes.{IsIn, IsParted}
use Rattle.geo_kernel.specs.Spine.{Segment, links, Touches, TouchesSome, chain_segments, area_segments, IsInside}
use Rattle.geo_kernel.specs.Spine.{IsOnSpine, SpinesTouch}
use Rattle.geo_kernel.proofs.Paths.{Any-here, Any-cases, Any-nil}
use Rattle.geo_kernel.proofs.Boxes.{parted_keep}
use Rattle.route_lattice.specs.Found.{box_between, point_at}

-- a point as a segment
abbrev pub alone : Point → Segment
alone p = record { from = p; to = p }

only : {X : Type 0} (P : X → Type 0) (x : X) → Any P (x ∷ []) → P x
only P x h = ⊎_elim (λ a. a) (λ b. absurd (Any-nil P b)) (Any-cases P x [] h)

pub covers_chain : (p : Point) (ps : List Point) (k : ℕ) → Any (Touches k (alone p)) (chain_segments ps)
    ↔ SpinesTouch (Chain (p ∷ [])) (Chain ps) k
covers_chain p ps k = (
  λ h. inl (Any-here (TouchesSome k (Chain ps)) (alone p) [] h),
  λ s. ⊎_elim (λ a. only (TouchesSome k (Chain ps)) (alone p) a) (λ b. ⊎_elim (λ x. absurd x) (λ x. absurd x) b) s,
)

pub covers_area : (p : Point) (loops : List (List Point)) (k : ℕ)
    → (Any (Touches k (alone p)) (area_segments loops) ⊎ IsInside p loops) ↔ SpinesTouch (Chain (p ∷ [])) (Area loops) k
covers_area p loops k = (
  λ h. ⊎_elim (λ a. inl (Any-here (TouchesSome k (Area loops)) (alone p) [] a)) (λ b. inr (inl b)) h,
  λ s. ⊎_elim (λ a. inl (only (TouchesSome k (Area loops)) (alone p) a)) (λ b. ⊎_elim (λ x. inr x) (λ x. absurd x) b) s,
)

-- ---- a point that touches a segment lies in its box
pub le_or_lt : (x y : ℤ) → (x ≤ℤ y) ⊎ (y <ℤ x)
le_or_lt (pos a) (pos b) = ⊎_elim (λ h. inl (omega (arith, ints))) (λ h. inr (omega (arith, ints))) (by a b)
  where
    by : (a b : ℕ) → (a ≤ b) ⊎ (b < a)
    by zero b = inl (omega arith)
    by (suc a) zero = inr (omega arith)
    by (suc a) (suc b) = ⊎_elim (λ h. inl (omega arith)) (λ h. inr (omega arith)) (by a b)
le_or_lt (pos a) (negsuc b) = inr (omega (arith, ints))
le_or_lt (negsuc a) (pos b) = inl (omega (arith, ints))
le_or_lt (negsuc a) (negsuc b) = ⊎_elim (λ h. inl (omega (arith, ints))) (λ h. inr (omega (arith, ints))) (by b a)
  where
    by : (a b : ℕ) → (a ≤ b) ⊎ (b < a)
    by zero b = inl (omega arith)
    by (suc a) zero = inr (omega arith)
    by (suc a) (suc b) = ⊎_elim (λ h. inl (omega arith)) (λ h. inr (omega arith)) (by a b)

not_both : (a b c d : Point) → SegmentsKeep a b c d 1 → SegmentsTouch a b c d 0 → ⊥
not_both a b c d keep touch =
    let k = keep.keep touch.n touch.s touch.t touch.some touch.s_within touch.t_within in
    let t = touch.touch in
    by touch.n _ k t touch.some (mul-le-mul_left touch.n touch.some)
  where
    by : (n : ℕ) (z : ℤ) → pos (1 * 1 * (n * n)) ≤ℤ z → z ≤ℤ pos (0 * 0 * (n * n)) → 0 < n → n * 1 ≤ n * n → ⊥
    by n z h i some m = omega (arith, ints)

min_left : (x y : ℤ) → int_min x y ≤ℤ x
min_left x y = omega (arith, ints, clamps)

min_right : (x y : ℤ) → int_min x y ≤ℤ y
min_right x y = omega (arith, ints, clamps)

max_left : (x y : ℤ) → x ≤ℤ int_max x y
max_left x y = omega (arith, ints, clamps)

max_right : (x y : ℤ) → y ≤ℤ int_max x y
max_right x y = omega (arith, ints, clamps)

-- a point in its own box
pub at_itself : (p : Point) → IsIn (box_between p p) p
at_itself p =
    record { left = min_left p.x p.x; right = max_left p.x p.x; bottom = min_left p.y p.y; top = max_left p.y p.y }

apart_not : (a b p : Point) → SegmentsTouch p p a b 0
    → IsParted (record { x0 = p.x; y0 = p.y; x1 = p.x; y1 = p.y }) (box_between a b) 1 → ⊥
apart_not a b p touch g =
    let le : (z : ℤ) → z ≤ℤ z = λ z. omega (arith, ints) in
    let i : IsIn (record { x0 = p.x; y0 = p.y; x1 = p.x; y1 = p.y }) p =
    record { left = le p.x; right = le p.x; bottom = le p.y; top = le p.y } in
    not_both p p a b
    (parted_keep (record { x0 = p.x; y0 = p.y; x1 = p.x; y1 = p.y }) (box_between a b) 1 p p a b g i i (first a b)
    (second a b)) touch
  where
    first : (a b : Point) → IsIn (box_between a b) a
    first a b = record {
      left = min_left a.x b.x;
      right = max_left a.x b.x;
      bottom = min_left a.y b.y;
      top = max_left a.y b.y;
    }

    second : (a b : Point) → IsIn (box_between a b) b
    second a b =
        record {
          left = min_right a.x b.x;
          right = max_right a.x b.x;
          bottom = min_right a.y b.y;
          top = max_right a.y b.y;
        }

pub in_box : (a b p : Point) → SegmentsTouch p p a b 0 → IsIn (box_between a b) p
in_box a b p touch = record {
  left = side (le_or_lt (int_min a.x b.x) p.x) (λ h. inl (inl (gap p.x (int_min a.x b.x) h)));
  right = side (le_or_lt p.x (int_max a.x b.x)) (λ h. inl (inr (gap (int_max a.x b.x) p.x h)));
  bottom = side (le_or_lt (int_min a.y b.y) p.y) (λ h. inr (inl (gap p.y (int_min a.y b.y) h)));
  top = side (le_or_lt p.y (int_max a.y b.y)) (λ h. inr (inr (gap (int_max a.y b.y) p.y h)));
}
  where
    gap : (hi lo : ℤ) → hi <ℤ lo → pos 1 ≤ℤ (pos 2 *ℤ (lo -ℤ hi))
    gap hi lo h = omega (arith, ints)

    side : {x y u w : ℤ} → (x ≤ℤ y) ⊎ (u <ℤ w)
        → (u <ℤ w → IsParted (record { x0 = p.x; y0 = p.y; x1 = p.x; y1 = p.y }) (box_between a b) 1) → x ≤ℤ y
    side (inl h) f = h
    side (inr h) f = absurd (apart_not a b p touch (f h))

-- ---- a point on a chain lies in the box of one of its points and the one before
links_at : (P : Segment → Type 0) (p : Point) (qs : List Point) → Any P (links p qs)
    → (j : ℕ) × (j < length qs) × P (record { from = point_at (p ∷ qs) j; to = point_at qs j })
links_at P p [] h = absurd (Any-nil P h)
links_at P p (q ∷ qs) h =
    ⊎_elim (λ a. (zero, omega arith, a)) (λ r. let t = links_at P q qs r in (suc t.0, omega (arith, t.1), t.2))
    (Any-cases P (record { from = p; to = q }) (links q qs) h)

pub on_chain : (p : Point) (ps : List Point) → IsOnSpine p (Chain ps)
    → (k : ℕ) × (k < length ps) × IsIn (box_between (point_at ps (k - 1)) (point_at ps k)) p
on_chain p [] h = absurd (Any-nil (Touches 0 (alone p)) h)
on_chain p (a ∷ []) h =
    let t = links_at (Touches 0 (alone p)) a (a ∷ []) h in
    (zero, omega arith, in_box a a p (only (Touches 0 (alone p)) (record { from = a; to = a }) h))
on_chain p (a ∷ b ∷ ps) h =
    let t = links_at (Touches 0 (alone p)) a (b ∷ ps) h in
    let e : t.0 ≡ suc t.0 - 1 = omega arith in (
      suc t.0,
      omega (arith, t.1),
      subst (λ n. IsIn (box_between (point_at (a ∷ b ∷ ps) n) (point_at (b ∷ ps) t.0)) p) e
          (in_box (point_at (a ∷ b ∷ ps) t.0) (point_at (b ∷ ps) t.0) p t.2),
    )
