-- What the code's sums and products of signed numbers give, within their bounds.
use Rattle.std.proofs.Common.{◌≡◌, ℕ, ℤ, ◌+ℤ◌, ◌-ℤ◌, ◌*ℤ◌, ◌*◌, ◌^◌, ◌≤◌, ◌<◌, unsigned_abs, pos, ◌≤ℤ◌, IsTrue, Bool}
use Rattle.std.proofs.Common.{◌⊎◌, ◌↔◌, w64, to_z, of_z, lit<, sym, refl, ap, ap₂, ◌∙◌, arith, mul-le-mul}
use Rattle.std.proofs.Common.{◌<ℤ◌, true, false, cond, ◌&&◌, subst, le_trans, lit≤}
use Rattle.std.proofs.lemmas.Int.{ints, to_z-of_z, fits_signed_mul, fits_signed_from_abs, unsigned_abs-mul}
use lib.Signed.{le_z, lt_z}
use borrow.Author.Differences.{true_is_le}
use mir.Val.{SFits, Fits}
use Rattle.geo_kernel.specs.declared.point.Point.{Point}
use Rattle.geo_kernel.specs.declared.bounded.Vector.{Vector}
use Rattle.geo_kernel.specs.Plane.{IsWithin}
use Rattle.geo_kernel.specs.Moved.{moved}
use Rattle.geo_kernel.specs.Spine.{is_right}
use Rattle.geo_kernel.specs.Boxes.{IsGap}
use mir.Syntax.{w128}
use Rattle.geo_kernel.specs.Nearest.{dot, cross}

-- a number as a goal shows it once the code passed or computed it
abbrev pub seen : ℤ → ℤ
seen z = to_z w64 (of_z w64 z)

pub unseen : (z : ℤ) → unsigned_abs z < 2 ^ 63 → seen z ≡ z
unseen z h = to_z-of_z w64 z (fits_signed_from_abs w64 z h)

short : (z : ℤ) → unsigned_abs z ≤ 2 ^ 30 → seen z ≡ z
short z h = unseen z (omega arith)

pub product_value : (a b : ℤ) → unsigned_abs a ≤ 2 ^ 30 → unsigned_abs b ≤ 2 ^ 30 → seen (seen a *ℤ seen b) ≡ a *ℤ b
product_value a b h k =
    let g = to_z-of_z w64 (a *ℤ b) (fits_signed_mul w64 a b (2 ^ 30) (2 ^ 30) h k (lit< tt)) in
    ap seen (ap₂ (λ x y. x *ℤ y) (short a h) (short b k)) ∙ g

pub product_within : (a b r : ℤ) → unsigned_abs a ≤ 2 ^ 30 → unsigned_abs b ≤ 2 ^ 30 → r ≡ a *ℤ b
    → unsigned_abs r ≤ 2 ^ 60
product_within a b r h k e = let f = ap unsigned_abs e in let g = unsigned_abs-mul a b in let m = mul-le-mul h k in
    omega arith

-- that product fits 64 bits
pub product_fits : (a b : ℤ) → unsigned_abs a ≤ 2 ^ 30 → unsigned_abs b ≤ 2 ^ 30 → SFits w64 (seen a *ℤ seen b)
product_fits a b h k =
    rw (short a h, short b k) (fits_signed_mul w64 a b (2 ^ 30) (2 ^ 30) h k (lit< tt))

sum_value : (x y p q : ℤ) → x ≡ p → y ≡ q → unsigned_abs x ≤ 2 ^ 60 → unsigned_abs y ≤ 2 ^ 60
    → seen (seen x +ℤ seen y) ≡ p +ℤ q
sum_value x y p q e f h k = omega (arith, ints)

difference_value : (x y p q : ℤ) → x ≡ p → y ≡ q → unsigned_abs x ≤ 2 ^ 60 → unsigned_abs y ≤ 2 ^ 60
    → seen (seen x -ℤ seen y) ≡ p -ℤ q
difference_value x y p q e f h k = omega (arith, ints)

pub sum_within : (x y : ℤ) → unsigned_abs x ≤ 2 ^ 60 → unsigned_abs y ≤ 2 ^ 60 → unsigned_abs (seen (seen x +ℤ seen y))
    ≤ 2 ^ 61
sum_within x y h k = omega (arith, ints)

pub difference_within : (x y : ℤ) → unsigned_abs x ≤ 2 ^ 60 → unsigned_abs y ≤ 2 ^ 60
    → unsigned_abs (seen (seen x -ℤ seen y)) ≤ 2 ^ 61
difference_within x y h k = omega (arith, ints)

module _ (ux uy vx vy r s : ℤ) (hu : (unsigned_abs ux ≤ 2 ^ 30) × (unsigned_abs uy ≤ 2 ^ 30))
    (hv : (unsigned_abs vx ≤ 2 ^ 30) × (unsigned_abs vy ≤ 2 ^ 30)) (hr : unsigned_abs r ≤ 2 ^ 60)
    (hs : unsigned_abs s ≤ 2 ^ 60) where
  pub dot_value : r ≡ seen ux *ℤ seen vx → s ≡ seen uy *ℤ seen vy → seen (seen r +ℤ seen s) ≡ dot ux uy vx vy
  dot_value e f =
      sum_value r s (ux *ℤ vx) (uy *ℤ vy) (e ∙ ap₂ (λ x y. x *ℤ y) (short ux hu.0) (short vx hv.0))
      (f ∙ ap₂ (λ x y. x *ℤ y) (short uy hu.1) (short vy hv.1)) hr hs

  pub cross_value : r ≡ seen ux *ℤ seen vy → s ≡ seen uy *ℤ seen vx → seen (seen r -ℤ seen s) ≡ cross ux uy vx vy
  cross_value e f =
      difference_value r s (ux *ℤ vy) (uy *ℤ vx) (e ∙ ap₂ (λ x y. x *ℤ y) (short ux hu.0) (short vy hv.1))
      (f ∙ ap₂ (λ x y. x *ℤ y) (short uy hu.1) (short vx hv.0)) hr hs

-- the same at 128 bits
abbrev pub seen_wide : ℤ → ℤ
seen_wide z = to_z w128 (of_z w128 z)

pub unseen_wide : (z : ℤ) → unsigned_abs z < 2 ^ 127 → seen_wide z ≡ z
unseen_wide z h = to_z-of_z w128 z (fits_signed_from_abs w128 z h)

test : (a b : ℤ) → IsTrue (le_z a b) ↔ (a ≤ℤ b)
test a b = (λ h. omega (arith, ints), λ h. sym (true_is_le a b (omega (arith, ints))))

-- the comparison of a squared distance m/l with the square s
pub at_least_value : (s l m n : ℤ) → unsigned_abs m ≤ 2 ^ 122 → unsigned_abs n ≤ 2 ^ 122 → n ≡ s *ℤ seen l
    → unsigned_abs s ≤ 2 ^ 60 → unsigned_abs l ≤ 2 ^ 61 →
    IsTrue (le_z (seen_wide n) (seen_wide (pos 4 *ℤ seen_wide m))) ↔ ((s *ℤ l) ≤ℤ (pos 4 *ℤ m))
at_least_value s l m n hm hn e hs hl =
    let a : seen_wide n ≡ n = omega (arith, ints) in
    let b : seen_wide (pos 4 *ℤ seen_wide m) ≡ pos 4 *ℤ m = omega (arith, ints) in
    let e' : n ≡ s *ℤ l = e ∙ ap (λ y. s *ℤ y) (unseen l (omega arith)) in
    rw (a, b, e') (test (s *ℤ l) (pos 4 *ℤ m))

pub at_most_value : (s l m n : ℤ) → unsigned_abs m ≤ 2 ^ 122 → unsigned_abs n ≤ 2 ^ 122 → n ≡ s *ℤ seen l
    → unsigned_abs s ≤ 2 ^ 60 → unsigned_abs l ≤ 2 ^ 61 →
    IsTrue (le_z (seen_wide (pos 4 *ℤ seen_wide m)) (seen_wide n)) ↔ ((pos 4 *ℤ m) ≤ℤ (s *ℤ l))
at_most_value s l m n hm hn e hs hl =
    let a : seen_wide n ≡ n = omega (arith, ints) in
    let b : seen_wide (pos 4 *ℤ seen_wide m) ≡ pos 4 *ℤ m = omega (arith, ints) in
    let e' : n ≡ s *ℤ l = e ∙ ap (λ y. s *ℤ y) (unseen l (omega arith)) in
    rw (a, b, e') (test (pos 4 *ℤ m) (s *ℤ l))

pub square_within : (k : ℕ) → k ≤ 2 ^ 30 → unsigned_abs (pos (k * k)) ≤ 2 ^ 60
square_within k h = let m = mul-le-mul h h in omega arith

pub square_value : (k : ℕ) → k ≤ 2 ^ 30 → to_z w64 (k * k) ≡ pos (k * k)
square_value k h = let m = mul-le-mul h h in omega (arith, ints)

pub middle : (z : ℤ) → unsigned_abs z ≤ 2 ^ 61 → seen z ≡ z
middle z h = unseen z (omega arith)

pub opposite : (z : ℤ) → unsigned_abs z ≤ 2 ^ 61 → seen (pos 0 -ℤ seen z) ≡ pos 0 -ℤ z
opposite z h = omega (arith, ints)

pub opposite_fits : (z : ℤ) → unsigned_abs z ≤ 2 ^ 61 → SFits w64 (pos 0 -ℤ seen z)
opposite_fits z h = rw (middle z h) (fits_signed_from_abs w64 (pos 0 -ℤ z) (omega (arith, ints)))

pub widened : (z n : ℤ) → unsigned_abs z ≤ 2 ^ 61 → z ≡ n → seen_wide (seen z) ≡ n
widened z n h e = omega (arith, ints)

pub area_value : (z n : ℤ) → unsigned_abs n ≤ 2 ^ 122 → unsigned_abs z ≤ 2 ^ 61 → n ≡ seen z *ℤ seen z
    → seen_wide n ≡ z *ℤ z
area_value z n h k e = unseen_wide n (omega arith) ∙ e ∙ ap₂ (λ x y. x *ℤ y) (middle z k) (middle z k)

-- the sum of two numbers, as the code computes it
pub added_value : (a b : ℤ) → unsigned_abs a ≤ 2 ^ 60 → unsigned_abs b ≤ 2 ^ 60 → seen (seen a +ℤ seen b) ≡ a +ℤ b
added_value a b h k =
    ap₂ (λ y z. seen (y +ℤ z)) (unseen a (omega arith)) (unseen b (omega arith))
    ∙ unseen (a +ℤ b) (omega (arith, ints, h, k))

abbrev pub point : ℤ → ℤ → Point
point x y = record { x = x; y = y }

-- a moved point, as the code computes it
pub moved_value : (p by : Point) → IsWithin (2 ^ 36) p → IsWithin (2 ^ 29) by
    → point (seen (seen p.x +ℤ seen by.x)) (seen (seen p.y +ℤ seen by.y)) ≡ moved by p
moved_value p by h k =
    ap₂ point (added_value p.x by.x (le_trans h.0 (lit≤ tt)) (le_trans k.0 (lit≤ tt)))
    (added_value p.y by.y (le_trans h.1 (lit≤ tt)) (le_trans k.1 (lit≤ tt)))

-- the product of two numbers of 64 bits fits 128
pub wide_fits : (a b : ℤ) → unsigned_abs a ≤ 2 ^ 61 → unsigned_abs b ≤ 2 ^ 61 → SFits w128 (a *ℤ b)
wide_fits a b h k = fits_signed_mul w128 a b (2 ^ 61) (2 ^ 61) h k (lit< tt)

-- that product, as the code computes it
pub wide_value : (a b : ℤ) → unsigned_abs a ≤ 2 ^ 61 → unsigned_abs b ≤ 2 ^ 61
    → seen_wide (seen_wide (seen a) *ℤ seen_wide (seen b)) ≡ a *ℤ b
wide_value a b h k =
    ap seen_wide (ap₂ (λ x y. x *ℤ y) (widened a a h refl) (widened b b k refl))
    ∙ to_z-of_z w128 (a *ℤ b) (wide_fits a b h k)

-- and its bound
pub wide_within : (a b r : ℤ) → unsigned_abs a ≤ 2 ^ 61 → unsigned_abs b ≤ 2 ^ 61 → r ≡ a *ℤ b
    → unsigned_abs r ≤ 2 ^ 122
wide_within a b r h k e = let f = ap unsigned_abs e in let g = unsigned_abs-mul a b in let m = mul-le-mul h k in
    omega arith

-- what the code has of a number within its bounds is within them
pub middle_within : (z : ℤ) → unsigned_abs z ≤ 2 ^ 61 → unsigned_abs (seen z) ≤ 2 ^ 61
middle_within z h = subst (λ y. unsigned_abs y ≤ 2 ^ 61) (sym (middle z h)) h

-- the same for a number of 128 bits
pub wide_kept : (z : ℤ) → unsigned_abs z ≤ 2 ^ 122 → unsigned_abs (seen_wide z) ≤ 2 ^ 122
wide_kept z h = subst (λ y. unsigned_abs y ≤ 2 ^ 122) (sym (unseen_wide z (omega arith))) h

-- and for one of 64 bits that is widened
pub widened_within : (z : ℤ) → unsigned_abs z ≤ 2 ^ 61 → unsigned_abs (seen_wide (seen z)) ≤ 2 ^ 122
widened_within z h =
    subst (λ y. unsigned_abs y ≤ 2 ^ 122) (sym (widened z z h refl)) (le_trans h (lit≤ tt))

-- a number of 64 bits fits 128 where the code widens it
pub cast_fits : (z : ℤ) → unsigned_abs z ≤ 2 ^ 61 → SFits w128 (seen z)
cast_fits z h = subst (SFits w128) (sym (middle z h)) (fits_signed_from_abs w128 z (omega arith))

-- a comparison of two such numbers, where it says yes and where it says no
pub at_most : (y z : ℤ) → unsigned_abs y ≤ 2 ^ 61 → unsigned_abs z ≤ 2 ^ 61 → le_z (seen y) (seen z) ≡ true → y ≤ℤ z
at_most y z h k e = (test y z).0 (sym (ap₂ le_z (middle y h) (middle z k)) ∙ e)

-- the case where it says no
pub above : (y z : ℤ) → unsigned_abs y ≤ 2 ^ 61 → unsigned_abs z ≤ 2 ^ 61 → le_z (seen y) (seen z) ≡ false → z <ℤ y
above y z h k e = beyond y z (sym (ap₂ le_z (middle y h) (middle z k)) ∙ e)
  where
    beyond : (y z : ℤ) → le_z y z ≡ false → z <ℤ y
    beyond y z e = omega (arith, ints)

-- twice the way from hi up to lo, at 128 bits
pub beyond_value : (hi lo : ℤ) (k : ℕ) → SFits w64 hi → SFits w64 lo → Fits w64 k →
    IsTrue (le_z (to_z w128 k) (seen_wide (pos 2 *ℤ seen_wide (seen_wide (seen lo) -ℤ seen_wide (seen hi)))))
    ↔ (pos k ≤ℤ (pos 2 *ℤ (lo -ℤ hi)))
beyond_value hi lo k fh fl fk =
    let a : seen_wide (seen lo) ≡ lo = omega (arith, ints) in
    let b : seen_wide (seen hi) ≡ hi = omega (arith, ints) in
    let d : to_z w128 k ≡ pos k = omega (arith, ints) in
    let e : seen_wide (pos 2 *ℤ seen_wide (lo -ℤ hi)) ≡ pos 2 *ℤ (lo -ℤ hi) = omega (arith, ints) in
    rw (a, b, d, e) (test (pos k) (pos 2 *ℤ (lo -ℤ hi)))

pub seen_gaps : (a0 a1 b0 b1 : ℤ) (k : ℕ) (r : Bool) → seen a0 ≡ a0 → seen a1 ≡ a1 → seen b0 ≡ b0 → seen b1 ≡ b1
    → IsTrue r ↔ (IsGap (seen a1) (seen b0) k ⊎ IsGap (seen b1) (seen a0) k)
    → IsTrue r ↔ (IsGap a1 b0 k ⊎ IsGap b1 a0 k)
seen_gaps a0 a1 b0 b1 k r e f g i h = rw (e, f, g, i) at h

-- the gap of two numbers of 64 bits, as a caller sees it
pub seen_gap : (hi lo : ℤ) (k : ℕ) (r : Bool) → SFits w64 hi → SFits w64 lo → IsTrue r ↔ IsGap (seen hi) (seen lo) k
    → IsTrue r ↔ IsGap hi lo k
seen_gap hi lo k r h l f = rw (to_z-of_z w64 hi h, to_z-of_z w64 lo l) at f

-- a coordinate as the code has it
near : (z : ℤ) → unsigned_abs z ≤ 2 ^ 29 → seen z ≡ z
near z h = unseen z (omega arith)

-- the difference of two coordinates, as the code computes it
pub apart_value : (p q : ℤ) → unsigned_abs p ≤ 2 ^ 29 → unsigned_abs q ≤ 2 ^ 29 → seen (seen p -ℤ seen q) ≡ p -ℤ q
apart_value p q h k =
    ap₂ (λ y z. seen (y -ℤ z)) (near p h) (near q k) ∙ unseen (p -ℤ q) (omega (arith, ints, h, k))

pub apart_within : (p q : ℤ) → unsigned_abs p ≤ 2 ^ 29 → unsigned_abs q ≤ 2 ^ 29
    → unsigned_abs (seen (seen p -ℤ seen q)) ≤ 2 ^ 30
apart_within p q h k = rw (apart_value p q h k) (omega (arith, ints, h, k))

-- the four ways through the test whether a segment is right of a point
module _ (p a b : Point) (u v : Vector) (turn : ℤ) (hp : IsWithin (2 ^ 29) p) (ha : IsWithin (2 ^ 29) a)
    (hb : IsWithin (2 ^ 29) b) (ht : unsigned_abs turn ≤ 2 ^ 61) (ux : u.x ≡ b.x -ℤ a.x) (uy : u.y ≡ b.y -ℤ a.y)
    (vx : v.x ≡ p.x -ℤ a.x) (vy : v.y ≡ p.y -ℤ a.y) (e : turn ≡ cross u.x u.y v.x v.y) where
  abbrev turned : ℤ
  turned = (b.x -ℤ a.x) *ℤ (p.y -ℤ a.y) -ℤ (b.y -ℤ a.y) *ℤ (p.x -ℤ a.x)

  turning : seen turn ≡ turned
  turning = middle turn ht ∙ e ∙ ap₂ (λ s t. s -ℤ t) (ap₂ (λ s t. s *ℤ t) ux vy) (ap₂ (λ s t. s *ℤ t) uy vx)

  from_below : (t : Bool) → le_z (seen a.y) (seen p.y) ≡ t → t ≡ le_z a.y p.y
  from_below t h = sym h ∙ ap₂ le_z (near a.y ha.1) (near p.y hp.1)

  to_above : (t : Bool) → lt_z (seen p.y) (seen b.y) ≡ t → t ≡ lt_z p.y b.y
  to_above t h = sym h ∙ ap₂ lt_z (near p.y hp.1) (near b.y hb.1)

  to_below : (t : Bool) → le_z (seen b.y) (seen p.y) ≡ t → t ≡ le_z b.y p.y
  to_below t h = sym h ∙ ap₂ le_z (near b.y hb.1) (near p.y hp.1)

  abbrev tested : Bool → Bool → Bool → Bool
  tested low high under = cond low (high && lt_z (pos 0) turned) (under && lt_z turned (pos 0))

  pub right_rising : le_z (seen a.y) (seen p.y) ≡ true → lt_z (seen p.y) (seen b.y) ≡ true
      → lt_z (pos 0) (seen turn) ≡ is_right p (record { from = a; to = b })
  right_rising h k =
      ap (lt_z (pos 0)) turning ∙ ap₂ (λ s t. tested s t (le_z b.y p.y)) (from_below true h) (to_above true k)

  pub below_both : le_z (seen a.y) (seen p.y) ≡ true → lt_z (seen p.y) (seen b.y) ≡ false
      → false ≡ is_right p (record { from = a; to = b })
  below_both h k = ap₂ (λ s t. tested s t (le_z b.y p.y)) (from_below true h) (to_above false k)

  pub right_falling : le_z (seen a.y) (seen p.y) ≡ false → le_z (seen b.y) (seen p.y) ≡ true
      → lt_z (seen turn) (pos 0) ≡ is_right p (record { from = a; to = b })
  right_falling h k =
      ap (λ z. lt_z z (pos 0)) turning
      ∙ ap₂ (λ s t. tested s (lt_z p.y b.y) t) (from_below false h) (to_below true k)

  pub above_both : le_z (seen a.y) (seen p.y) ≡ false → le_z (seen b.y) (seen p.y) ≡ false
      → false ≡ is_right p (record { from = a; to = b })
  above_both h k = ap₂ (λ s t. tested s (lt_z p.y b.y) t) (from_below false h) (to_below false k)
