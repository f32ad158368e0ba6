-- Of the edges that a segment hits, the foremost; and why a point inside two areas leads to an edge of one of them
-- inside the other.
use Rattle.std.proofs.Common.{◌≡◌, ℕ, ◌*◌, ◌-◌, ◌<◌, ◌≤◌, ◌++◌, ◌⊎◌, inl, inr, ⊎_elim, List, [], ◌∷◌, All, ℤ, pos, ◌+ℤ◌}
use Rattle.std.proofs.Common.{◌-ℤ◌, ◌*ℤ◌, ◌≤ℤ◌, ◌<ℤ◌, sym, ap, ap₂, ◌∙◌, subst, arith, mul-pos, mul-le-mul, le_refl}
use Rattle.std.proofs.Common.{eq-zero-or-pos}
use Rattle.std.proofs.Math.Nat.{le_of_mul-le-mul_left}
use Rattle.std.proofs.lemmas.Int.{ints, by_lt_z}
use Rattle.std.proofs.lemmas.List.Elements.{All-nil, All-cons, All-head, All-tail, All-append}
use lib.IntN.{zero-*ℤ}
use Rattle.geo_kernel.specs.declared.point.Point.{Point}
use Rattle.geo_kernel.specs.Plane.{apart}
use Rattle.geo_kernel.specs.Nearest.{cross, Cross}
use Rattle.geo_kernel.specs.Spine.{Segment, area_segments, Touches, IsInside}
use Rattle.geo_kernel.specs.Solid.{stretched, point_at, IsInsideAt, IsOutside}
use Rattle.geo_kernel.proofs.Ring.{ring, var, lit, ◌⊕◌, ◌⊖◌, ◌⊗◌, x0, x1, x2, x3, x4, x5, x6, x7, x8, x9}
use Rattle.geo_kernel.proofs.Order.{scale, cancel}
use Rattle.geo_kernel.proofs.Foot.{crossE}
use Rattle.geo_kernel.proofs.Segments.{less}
use Rattle.geo_kernel.proofs.Paths.{All-append_first, All-append_second}
use Rattle.spine_cover.proofs.Hits.{Hit, whole, first, second, hit_by, hit_of, met_x, met_y, one_point, at_nothing}
use Rattle.spine_cover.proofs.Stretching.{inside_beside, inside_larger, inside_along}
use Rattle.spine_cover.proofs.Apart.{Clear}

-- ---- the order of hits along a segment
-- the one hit comes no later than the other
abbrev pub IsUpTo : (a b c d u v : Point) → Hit a b c d → Hit a b u v → Type 0
IsUpTo a b c d u v h y = h.along * y.all ≤ y.along * h.all

later : (g l g' l' g'' l'' : ℕ) → 0 < l' → g * l' ≤ g' * l → g' * l'' ≤ g'' * l' → g * l'' ≤ g'' * l
later g l g' l' g'' l'' some h k =
    le_of_mul-le-mul_left {m = g * l''} {n = g'' * l} {k = l'}
    (let p : g * l' * l'' ≤ g' * l * l'' = mul-le-mul h (le_refl l'') in
    let q : g' * l'' * l ≤ g'' * l' * l = mul-le-mul k (le_refl l) in
    omega arith) some

either : (m n : ℕ) → (m ≤ n) ⊎ (n ≤ m)
either m n = by_lt_z (pos m) (pos n) (λ l. inl (weak m n l)) (λ l. inr (back m n l))
  where
    weak : (m n : ℕ) → pos m <ℤ pos n → m ≤ n
    weak m n l = omega (arith, ints)

    back : (m n : ℕ) → pos n ≤ℤ pos m → n ≤ m
    back m n l = omega (arith, ints)

-- two hits of one edge are at one place
alike : (l g l' g' : ℕ) (e e' C G : ℤ) → pos l ≡ e *ℤ C → pos g ≡ e *ℤ G → pos l' ≡ e' *ℤ C → pos g' ≡ e' *ℤ G
    → g * l' ≤ g' * l
alike l g l' g' e e' C G h i j k =
    dropped (g * l') (g' * l)
    (ap₂ (λ x y. x *ℤ y) i j ∙ ring (e ∷ e' ∷ C ∷ G ∷ []) ((x0 ⊗ x3) ⊗ (x1 ⊗ x2)) ((x1 ⊗ x3) ⊗ (x0 ⊗ x2)) tt
    ∙ sym (ap₂ (λ x y. x *ℤ y) k h))
  where
    dropped : (m n : ℕ) → pos m ≡ pos n → m ≤ n
    dropped m n e = omega (arith, ints)

itself : (a b c d : Point) (y z : Hit a b c d) → IsUpTo a b c d c d y z
itself a b c d y z =
    alike y.all y.along z.all z.along y.sign z.sign (cross (b.x -ℤ a.x) (b.y -ℤ a.y) (d.x -ℤ c.x) (d.y -ℤ c.y))
    (cross (d.x -ℤ c.x) (d.y -ℤ c.y) (a.x -ℤ c.x) (a.y -ℤ c.y)) y.all_is y.along_is z.all_is z.along_is

module _ (a b : Point) where
  -- each hit of f comes no earlier
  abbrev pub IsBehind : (c d : Point) → Hit a b c d → Segment → Type 0
  IsBehind c d h f = (y : Hit a b f.from f.to) → IsUpTo a b c d f.from f.to h y

  abbrev pub NoHit : Segment → Type 0
  NoHit f = ¬ (Hit a b f.from f.to)

-- an edge with T that is hit before each of these, or where they are
pub record Foremost (a b : Point) (T : Segment → Type 0) (es : List Segment) : Type 0 where
  pub edge : Segment
  pub is : T edge
  pub hit : Hit a b edge.from edge.to
  pub behind : All (IsBehind a b edge.from edge.to hit) es

module _ (a b : Point) (T : Segment → Type 0) where
  alone : (e : Segment) (es : List Segment) → T e → Hit a b e.from e.to → All (NoHit a b) es → Foremost a b T (e ∷ es)
  alone e es is y none = record {
    edge = e;
    is = is;
    hit = y;
    behind = All-cons (IsBehind a b e.from e.to y) e es (λ z. itself a b e.from e.to y z)
        (λ j d m z. absurd (none j d m z));
  }

  kept : (e : Segment) (es : List Segment) → NoHit a b e → Foremost a b T es → Foremost a b T (e ∷ es)
  kept e es miss best = record {
    edge = best.edge;
    is = best.is;
    hit = best.hit;
    behind = All-cons (IsBehind a b best.edge.from best.edge.to best.hit) e es (λ z. absurd (miss z)) best.behind;
  }

  chosen : (e : Segment) (es : List Segment) → T e → Hit a b e.from e.to → Foremost a b T es → Foremost a b T (e ∷ es)
  chosen e es is y best = ⊎_elim
      (λ l. record {
        edge = best.edge;
        is = best.is;
        hit = best.hit;
        behind = All-cons (IsBehind a b best.edge.from best.edge.to best.hit) e es
            (λ z. later best.hit.along best.hit.all y.along y.all z.along z.all y.some l (itself a b e.from e.to y z))
            best.behind;
      })
      (λ l. record {
        edge = e;
        is = is;
        hit = y;
        behind = All-cons (IsBehind a b e.from e.to y) e es (λ z. itself a b e.from e.to y z)
            (λ j d m z. later y.along y.all best.hit.along best.hit.all z.along z.all best.hit.some l
            (best.behind j d m z));
      })
      (either (best.hit.along * y.all) (y.along * best.hit.all))

  -- none of the edges is hit, or one is the foremost
  pub foremost : (es : List Segment) → All T es → ¬ (All (NoHit a b) es) → ¬ (Foremost a b T es) → ⊥
  foremost [] h none some = none (All-nil (NoHit a b))
  foremost (e ∷ es) h none some =
      let here = All-head T e es h in
      foremost es (All-tail T e es h)
      (λ clear. (λ (miss : NoHit a b e). none (All-cons (NoHit a b) e es miss clear))
      (λ y. some (alone e es here y clear)))
      (λ best. (λ (miss : NoHit a b e). some (kept e es miss best)) (λ y. some (chosen e es here y best)))

-- ---- up to the foremost edge
-- the numbers of a hit of f by the part of the segment up to g/n, where they are those of f by the whole segment, times
-- these
record Smaller (n g : ℕ) (z u v : ℤ) : Type 0 where
  positive : pos 0 <ℤ z
  u_low : pos 0 ≤ℤ u
  u_high : u ≤ℤ z
  v_low : pos 0 ≤ℤ v
  v_high : v ≤ℤ z
  before : (pos n *ℤ u) ≤ℤ (pos g *ℤ z)

at_least : (n : ℕ) → pos 0 ≤ℤ pos n
at_least n = omega (arith, ints)

more : (n : ℕ) → 0 < n → pos 0 <ℤ pos n
more n h = omega (arith, ints)

upto : (m n : ℕ) → m ≤ n → pos m ≤ℤ pos n
upto m n h = omega (arith, ints)

nil_times : (a : ℤ) → a *ℤ pos 0 ≡ pos 0
nil_times a = omega (arith, ints)

follow : (a b c : ℤ) → a ≤ℤ b → b ≤ℤ c → a ≤ℤ c
follow a b c h k = omega (arith, ints)

on : (a b c d : ℤ) → a ≡ c → b ≡ d → c ≤ℤ d → a ≤ℤ b
on a b c d e f h = omega (arith, ints)

from_product : (k : ℕ) (z : ℤ) → pos 0 <ℤ (pos k *ℤ z) → (0 < k) × (pos 0 <ℤ z)
from_product k z h = (
  ⊎_elim (λ (e : k ≡ 0). absurd (none (pos k *ℤ z) h (ap (λ (m : ℕ). pos m *ℤ z) e ∙ zero-*ℤ z))) (λ l. l)
      (eq-zero-or-pos k),
  by_lt_z (pos 0) z (λ l. l)
      (λ l. absurd
      (clash (pos k *ℤ z) (pos k *ℤ pos 0) h (scale (pos k) z (pos 0) (at_least k) l) (nil_times (pos k)))),
)
  where
    none : (a : ℤ) → pos 0 <ℤ a → a ≡ pos 0 → ⊥
    none a h e = omega (arith, ints)

    clash : (a b : ℤ) → pos 0 <ℤ a → a ≤ℤ b → b ≡ pos 0 → ⊥
    clash a b h k e = omega (arith, ints)

smaller : (n g l i r : ℕ) (z u v : ℤ) → 0 < n → g ≤ n → 0 < l → i ≤ l → r ≤ l → pos l ≡ pos (n * g) *ℤ z
    → pos i ≡ pos (n * n) *ℤ u → pos r ≡ pos (n * g) *ℤ v → Smaller n g z u v
smaller n g l i r z u v some upper l_some i_within r_within l_is i_is r_is =
    let both = from_product (n * g) z (on_less (pos l) (pos (n * g) *ℤ z) l_is (more l l_some)) in
    let positive = both.1 in
    let square : pos 0 <ℤ pos (n * n) = more (n * n) (mul-pos some some) in
    let mixed : pos 0 <ℤ pos (n * g) = more (n * g) both.0 in
    let before : (pos n *ℤ u) ≤ℤ (pos g *ℤ z) =
    cancel (pos n) (pos n *ℤ u) (pos g *ℤ z) (more n some)
    (on _ _ (pos i) (pos l) (three (pos n) (pos n) u ∙ sym i_is) (three (pos n) (pos g) z ∙ sym l_is)
    (upto i l i_within)) in
    record {
      positive = positive;
      u_low = cancel (pos (n * n)) (pos 0) u square
          (on _ _ (pos 0) (pos i) (nil_times (pos (n * n))) (sym i_is) (at_least i));
      u_high = cancel (pos n) u z (more n some)
          (follow _ _ _ before
          (on _ _ (z *ℤ pos g) (z *ℤ pos n) (turned (pos g) z) (turned (pos n) z)
          (scale z (pos g) (pos n) (weak z positive) (upto g n upper))));
      v_low = cancel (pos (n * g)) (pos 0) v mixed
          (on _ _ (pos 0) (pos r) (nil_times (pos (n * g))) (sym r_is) (at_least r));
      v_high = cancel (pos (n * g)) v z mixed (on _ _ (pos r) (pos l) (sym r_is) (sym l_is) (upto r l r_within));
      before = before;
    }
  where
    on_less : (a b : ℤ) → a ≡ b → pos 0 <ℤ a → pos 0 <ℤ b
    on_less a b e h = omega (arith, ints)

    weak : (a : ℤ) → pos 0 <ℤ a → pos 0 ≤ℤ a
    weak a h = omega (arith, ints)

    three : (a b c : ℤ) → a *ℤ (b *ℤ c) ≡ (a *ℤ b) *ℤ c
    three a b c = ring (a ∷ b ∷ c ∷ []) (x0 ⊗ (x1 ⊗ x2)) ((x0 ⊗ x1) ⊗ x2) tt

    turned : (a b : ℤ) → a *ℤ b ≡ b *ℤ a
    turned a b = ring (a ∷ b ∷ []) (x0 ⊗ x1) (x1 ⊗ x0) tt

-- the cross products of the part, in a picture n times as large
whole_larger : (n g : ℕ) (e ax ay bx by cx cy dx dy : ℤ) → g ≤ n →
    e *ℤ cross ((pos (n - g) *ℤ ax +ℤ pos g *ℤ bx) -ℤ pos n *ℤ ax) ((pos (n - g) *ℤ ay +ℤ pos g *ℤ by) -ℤ pos n *ℤ ay)
    (pos n *ℤ dx -ℤ pos n *ℤ cx) (pos n *ℤ dy -ℤ pos n *ℤ cy)
    ≡ (pos n *ℤ pos g) *ℤ (e *ℤ cross (bx -ℤ ax) (by -ℤ ay) (dx -ℤ cx) (dy -ℤ cy))
whole_larger n g e ax ay bx by cx cy dx dy l =
    rw (less n g l) (ring (pos n ∷ pos g ∷ e ∷ ax ∷ ay ∷ bx ∷ by ∷ cx ∷ cy ∷ dx ∷ dy ∷ [])
    (x2 ⊗ crossE (((x0 ⊖ x1) ⊗ x3 ⊕ x1 ⊗ x5) ⊖ x0 ⊗ x3) (((x0 ⊖ x1) ⊗ x4 ⊕ x1 ⊗ x6) ⊖ x0 ⊗ x4) (x0 ⊗ x9 ⊖ x0 ⊗ x7)
    (x0 ⊗ var 10 ⊖ x0 ⊗ x8))
    ((x0 ⊗ x1) ⊗ (x2 ⊗ crossE (x5 ⊖ x3) (x6 ⊖ x4) (x9 ⊖ x7) (var 10 ⊖ x8))) tt)

first_larger : (n : ℕ) (e ax ay cx cy dx dy : ℤ) →
    e *ℤ cross (pos n *ℤ dx -ℤ pos n *ℤ cx) (pos n *ℤ dy -ℤ pos n *ℤ cy) (pos n *ℤ ax -ℤ pos n *ℤ cx)
    (pos n *ℤ ay -ℤ pos n *ℤ cy)
    ≡ (pos n *ℤ pos n) *ℤ (e *ℤ cross (dx -ℤ cx) (dy -ℤ cy) (ax -ℤ cx) (ay -ℤ cy))
first_larger n e ax ay cx cy dx dy = ring (pos n ∷ e ∷ ax ∷ ay ∷ cx ∷ cy ∷ dx ∷ dy ∷ [])
    (x1 ⊗ crossE (x0 ⊗ x6 ⊖ x0 ⊗ x4) (x0 ⊗ x7 ⊖ x0 ⊗ x5) (x0 ⊗ x2 ⊖ x0 ⊗ x4) (x0 ⊗ x3 ⊖ x0 ⊗ x5))
    ((x0 ⊗ x0) ⊗ (x1 ⊗ crossE (x6 ⊖ x4) (x7 ⊖ x5) (x2 ⊖ x4) (x3 ⊖ x5))) tt

second_larger : (n g : ℕ) (e ax ay bx by cx cy : ℤ) → g ≤ n →
    e *ℤ cross ((pos (n - g) *ℤ ax +ℤ pos g *ℤ bx) -ℤ pos n *ℤ ax) ((pos (n - g) *ℤ ay +ℤ pos g *ℤ by) -ℤ pos n *ℤ ay)
    (pos n *ℤ ax -ℤ pos n *ℤ cx) (pos n *ℤ ay -ℤ pos n *ℤ cy)
    ≡ (pos n *ℤ pos g) *ℤ (e *ℤ cross (bx -ℤ ax) (by -ℤ ay) (ax -ℤ cx) (ay -ℤ cy))
second_larger n g e ax ay bx by cx cy l = rw (less n g l) (ring (pos n ∷ pos g ∷ e ∷ ax ∷ ay ∷ bx ∷ by ∷ cx ∷ cy ∷ [])
    (x2 ⊗ crossE (((x0 ⊖ x1) ⊗ x3 ⊕ x1 ⊗ x5) ⊖ x0 ⊗ x3) (((x0 ⊖ x1) ⊗ x4 ⊕ x1 ⊗ x6) ⊖ x0 ⊗ x4) (x0 ⊗ x3 ⊖ x0 ⊗ x7)
    (x0 ⊗ x4 ⊖ x0 ⊗ x8))
    ((x0 ⊗ x1) ⊗ (x2 ⊗ crossE (x5 ⊖ x3) (x6 ⊖ x4) (x3 ⊖ x7) (x4 ⊖ x8))) tt)

-- two edges that are hit at one place touch there
one_place : (n g h z u v : ℕ) (a b c d c' d' : ℤ) → h ≤ n → v ≤ z → g * z ≡ u * n
    → pos n *ℤ a +ℤ pos g *ℤ (b -ℤ a) ≡ pos n *ℤ c +ℤ pos h *ℤ (d -ℤ c)
    → pos z *ℤ a +ℤ pos u *ℤ (b -ℤ a) ≡ pos z *ℤ c' +ℤ pos v *ℤ (d' -ℤ c') →
    apart (n * z) (h * z) (n * v) c d c' d' ≡ pos 0
one_place n g h z u v a b c d c' d' hn vz e i j =
    let hz : h * z ≤ n * z = mul-le-mul hn (le_refl z) in
    let nv : n * v ≤ n * z = mul-le-mul (le_refl n) vz in
    rw (less (n * z) (h * z) hz, less (n * z) (n * v) nv)
    (ring (pos n ∷ pos h ∷ pos z ∷ pos v ∷ c ∷ d ∷ c' ∷ d' ∷ [])
    (((x0 ⊗ x2 ⊖ x1 ⊗ x2) ⊗ x4 ⊕ (x1 ⊗ x2) ⊗ x5) ⊖ ((x0 ⊗ x2 ⊖ x0 ⊗ x3) ⊗ x6 ⊕ (x0 ⊗ x3) ⊗ x7))
    (x2 ⊗ (x0 ⊗ x4 ⊕ x1 ⊗ (x5 ⊖ x4)) ⊖ x0 ⊗ (x2 ⊗ x6 ⊕ x3 ⊗ (x7 ⊖ x6))) tt
    ∙ ap₂ (λ x y. pos z *ℤ x -ℤ pos n *ℤ y) (sym i) (sym j)
    ∙ ring (pos n ∷ pos z ∷ pos g ∷ pos u ∷ a ∷ b ∷ [])
    (x1 ⊗ (x0 ⊗ x4 ⊕ x2 ⊗ (x5 ⊖ x4)) ⊖ x0 ⊗ (x1 ⊗ x4 ⊕ x3 ⊗ (x5 ⊖ x4))) ((x2 ⊗ x1 ⊖ x3 ⊗ x0) ⊗ (x5 ⊖ x4)) tt
    ∙ ap (λ (m : ℕ). (pos m -ℤ pos (u * n)) *ℤ (b -ℤ a)) e
    ∙ ring (pos (u * n) ∷ a ∷ b ∷ []) ((x0 ⊖ x0) ⊗ (x2 ⊖ x1)) (lit 0) tt)

module _ (a b : Point) (e f : Segment) (h : Hit a b e.from e.to) (behind : IsBehind a b e.from e.to h f) (k : ℕ) where
  same_place : (y : Hit a b f.from f.to) → h.along * y.all ≡ y.along * h.all → Touches k e f
  same_place y is = record {
    n = h.all * y.all;
    s = h.across * y.all;
    t = h.all * y.across;
    some = mul-pos h.some y.some;
    s_within = mul-le-mul h.across_within (le_refl y.all);
    t_within = mul-le-mul (le_refl h.all) y.across_within;
    touch = at_nothing (apart (h.all * y.all) (h.across * y.all) (h.all * y.across) e.from.x e.to.x f.from.x f.to.x)
        (apart (h.all * y.all) (h.across * y.all) (h.all * y.across) e.from.y e.to.y f.from.y f.to.y)
        (k * k * (h.all * y.all * (h.all * y.all)))
        (one_place h.all h.along h.across y.all y.along y.across a.x b.x e.from.x e.to.x f.from.x f.to.x h.across_within
        y.across_within is (met_x a b e.from e.to h) (met_x a b f.from f.to y))
        (one_place h.all h.along h.across y.all y.along y.across a.y b.y e.from.y e.to.y f.from.y f.to.y h.across_within
        y.across_within is (met_y a b e.from e.to h) (met_y a b f.from f.to y));
  }

  -- a hit of f that comes no later is at the same place
  no_later : (sign : ℤ) (z : Hit a b f.from f.to) → pos z.all ≡ whole a b f.from f.to sign
      → pos z.along ≡ first a b f.from f.to sign → (pos h.all *ℤ first a b f.from f.to sign)
      ≤ℤ (pos h.along *ℤ whole a b f.from f.to sign) → Touches k e f
  no_later sign z whole_is first_is before =
      same_place z (both (h.along * z.all) (z.along * h.all) (behind z)
      (dropped z.along h.all h.along z.all
      (on (pos h.all *ℤ pos z.along) (pos h.along *ℤ pos z.all) (pos h.all *ℤ first a b f.from f.to sign)
      (pos h.along *ℤ whole a b f.from f.to sign) (ap (λ i. pos h.all *ℤ i) first_is)
      (ap (λ i. pos h.along *ℤ i) whole_is) before)))
    where
      both : (m n : ℕ) → m ≤ n → n ≤ m → m ≡ n
      both m n h k = omega arith

      dropped : (m n i j : ℕ) → (pos n *ℤ pos m) ≤ℤ (pos i *ℤ pos j) → m * n ≤ i * j
      dropped m n i j h = omega (arith, ints)

  -- f is hit by the part up to e: it touches e there
  pub met_before : Cross (stretched h.all a)
      (point_at h.all h.along (let g : Segment = record { from = a; to = b } in g)) (stretched h.all f.from)
      (stretched h.all f.to) → Touches k e f
  met_before x =
      let y = hit_of (stretched h.all a) (point_at h.all h.along (let g : Segment = record { from = a; to = b } in g))
      (stretched h.all f.from) (stretched h.all f.to) x in
      let small = smaller h.all h.along y.all y.along y.across (whole a b f.from f.to y.sign)
      (first a b f.from f.to y.sign) (second a b f.from f.to y.sign) h.some h.along_within y.some y.along_within
      y.across_within
      (y.all_is ∙ whole_larger h.all h.along y.sign a.x a.y b.x b.y f.from.x f.from.y f.to.x f.to.y h.along_within)
      (y.along_is ∙ first_larger h.all y.sign a.x a.y f.from.x f.from.y f.to.x f.to.y)
      (y.across_is ∙ second_larger h.all h.along y.sign a.x a.y b.x b.y f.from.x f.from.y h.along_within) in
      let z = hit_by a b f.from f.to y.sign small.positive small.u_low small.u_high small.v_low small.v_high in
      no_later y.sign z.0 z.1 z.2 small.before

-- ---- a point inside two areas
-- a segment of neither area: it has no point inside the other, and touches none of its edges
abbrev pub IsOff : ℕ → List (List Point) → Segment → Type 0
IsOff k loops e = IsOutside loops e × Clear k (area_segments loops) e

module _ (k : ℕ) (a b : Point) where
  abbrev way : Segment
  way = record { from = a; to = b }

  -- an edge that is off an area is not the foremost of the area's edges and itself, where the way begins inside that
  -- area
  not_foremost : (loops : List (List Point)) (e : Segment) (h : Hit a b e.from e.to) → IsOff k loops e
      → All (IsBehind a b e.from e.to h) (area_segments loops) → ¬ (IsInside a loops)
  not_foremost loops e h off behind in_it =
      let there : IsInsideAt h.all (point_at h.all h.along way) loops =
      inside_along h.all h.some (stretched h.all a) (point_at h.all h.along way) loops
      (λ j f m x. off.1 j f m (met_before a b e _ h (behind j f m) k x)) (inside_larger h.all h.some a loops in_it) in
      off.0 h.all h.across h.some h.across_within
      (subst (λ (p : Point). IsInsideAt h.all p loops) (one_point a b e h) there)

  -- a way from inside both to outside the second, where each edge is off the other area
  pub both_inside : (loops others : List (List Point)) → All (IsOff k others) (area_segments loops)
      → All (IsOff k loops) (area_segments others) → IsInside a loops → IsInside a others → ¬ (IsInside b others) → ⊥
  both_inside loops others off off' in_loops in_others out =
      let T : Segment → Type 0 = λ e. IsOff k others e ⊎ IsOff k loops e in
      let es = area_segments loops in
      let fs = area_segments others in
      foremost a b T (es ++ fs) (All-append T es fs (λ i e m. inl (off i e m)) (λ i e m. inr (off' i e m)))
      (λ none. out
      (inside_beside a b others (λ i f m x. All-append_second (NoHit a b) es fs none i f m (hit_of a b _ _ x))
      in_others))
      (λ best. ⊎_elim
      (λ o. not_foremost others best.edge best.hit o
      (All-append_second (IsBehind a b best.edge.from best.edge.to best.hit) es fs best.behind) in_others)
      (λ o. not_foremost loops best.edge best.hit o
      (All-append_first (IsBehind a b best.edge.from best.edge.to best.hit) es fs best.behind) in_loops) best.is)
