-- Where two segments that are no parallels have a point in common: how far along each of them.
use Rattle.std.proofs.Common.{◌≡◌, ℕ, [], ◌∷◌, ℤ, pos, negsuc, ◌*◌, ◌-◌, ◌≤◌, ◌<◌, inl, inr, ◌+ℤ◌, ◌-ℤ◌, ◌*ℤ◌, ◌≤ℤ◌}
use Rattle.std.proofs.Common.{◌<ℤ◌, refl, sym, ap₂, ◌∙◌, arith, mul-pos, mul-le-mul, le_refl}
use Rattle.std.proofs.lemmas.Int.{ints}
use Rattle.geo_kernel.specs.declared.point.Point.{Point}
use Rattle.geo_kernel.specs.Plane.{apart, squared}
use Rattle.geo_kernel.specs.Nearest.{cross, Cross}
use Rattle.geo_kernel.specs.Spine.{Segment, Touches}
use Rattle.geo_kernel.specs.Solid.{stretched, point_at}
use Rattle.geo_kernel.proofs.Ring.{ring, ◌⊕◌, ◌⊖◌, ◌⊗◌, x0, x1, x2, x3, x4, x5, x6, x7, x8}
use Rattle.geo_kernel.proofs.Foot.{crossE}
use Rattle.geo_kernel.proofs.Segments.{less}
use Rattle.geo_kernel.proofs.Moves.{point_is}

-- the point at along/all of a b is that at across/all of c d; the three are cross products, all with one sign
pub record Hit (a b c d : Point) : Type 0 where
  pub all : ℕ
  pub along : ℕ
  pub across : ℕ
  pub sign : ℤ
  pub some : 0 < all
  pub along_within : along ≤ all
  pub across_within : across ≤ all
  pub all_is : pos all ≡ sign *ℤ cross (b.x -ℤ a.x) (b.y -ℤ a.y) (d.x -ℤ c.x) (d.y -ℤ c.y)
  pub along_is : pos along ≡ sign *ℤ cross (d.x -ℤ c.x) (d.y -ℤ c.y) (a.x -ℤ c.x) (a.y -ℤ c.y)
  pub across_is : pos across ≡ sign *ℤ cross (b.x -ℤ a.x) (b.y -ℤ a.y) (a.x -ℤ c.x) (a.y -ℤ c.y)

natural : (z : ℤ) → pos 0 ≤ℤ z → (n : ℕ) × (pos n ≡ z)
natural (pos n) h = (n, refl)
natural (negsuc n) h = absurd (omega (arith, ints))

weak : (z : ℤ) → pos 0 <ℤ z → pos 0 ≤ℤ z
weak z h = omega (arith, ints)

above : (n : ℕ) (z : ℤ) → pos n ≡ z → pos 0 <ℤ z → 0 < n
above n z e h = omega (arith, ints)

order : (n m : ℕ) (x y : ℤ) → pos n ≡ x → pos m ≡ y → x ≤ℤ y → n ≤ m
order n m x y e f h = omega (arith, ints)

module _ (a b c d : Point) (sign : ℤ) where
  abbrev pub whole : ℤ
  whole = sign *ℤ cross (b.x -ℤ a.x) (b.y -ℤ a.y) (d.x -ℤ c.x) (d.y -ℤ c.y)

  abbrev pub first : ℤ
  first = sign *ℤ cross (d.x -ℤ c.x) (d.y -ℤ c.y) (a.x -ℤ c.x) (a.y -ℤ c.y)

  abbrev pub second : ℤ
  second = sign *ℤ cross (b.x -ℤ a.x) (b.y -ℤ a.y) (a.x -ℤ c.x) (a.y -ℤ c.y)

  -- the numbers of a hit, where they are of one sign
  pub hit_by : pos 0 <ℤ whole → pos 0 ≤ℤ first → first ≤ℤ whole → pos 0 ≤ℤ second → second ≤ℤ whole
      → (h : Hit a b c d) × (pos h.all ≡ whole) × (pos h.along ≡ first)
  hit_by some low high low' high' =
      let l = natural whole (weak whole some) in
      let g = natural first low in
      let h = natural second low' in (
        record {
          all = l.0;
          along = g.0;
          across = h.0;
          sign = sign;
          some = above l.0 whole l.1 some;
          along_within = order g.0 l.0 first whole g.1 l.1 high;
          across_within = order h.0 l.0 second whole h.1 l.1 high';
          all_is = l.1;
          along_is = g.1;
          across_is = h.1;
        },
        l.1,
        g.1,
      )

one_positive : (z : ℤ) → pos 0 <ℤ z → pos 0 <ℤ (pos 1 *ℤ z)
one_positive z h = omega (arith, ints)

one_low : (z : ℤ) → pos 0 ≤ℤ z → pos 0 ≤ℤ (pos 1 *ℤ z)
one_low z h = omega (arith, ints)

one_order : (x y : ℤ) → x ≤ℤ y → (pos 1 *ℤ x) ≤ℤ (pos 1 *ℤ y)
one_order x y h = omega (arith, ints)

minus_positive : (z : ℤ) → pos 0 <ℤ (pos 0 -ℤ z) → pos 0 <ℤ (negsuc 0 *ℤ z)
minus_positive z h = omega (arith, ints)

minus_low : (z : ℤ) → pos 0 ≤ℤ (pos 0 -ℤ z) → pos 0 ≤ℤ (negsuc 0 *ℤ z)
minus_low z h = omega (arith, ints)

minus_order : (x y : ℤ) → (pos 0 -ℤ x) ≤ℤ (pos 0 -ℤ y) → (negsuc 0 *ℤ x) ≤ℤ (negsuc 0 *ℤ y)
minus_order x y h = omega (arith, ints)

module _ (a b c d : Point) where
  abbrev C : ℤ
  C = cross (b.x -ℤ a.x) (b.y -ℤ a.y) (d.x -ℤ c.x) (d.y -ℤ c.y)

  abbrev G : ℤ
  G = cross (d.x -ℤ c.x) (d.y -ℤ c.y) (a.x -ℤ c.x) (a.y -ℤ c.y)

  abbrev H : ℤ
  H = cross (b.x -ℤ a.x) (b.y -ℤ a.y) (a.x -ℤ c.x) (a.y -ℤ c.y)

  pub hit_of : Cross a b c d → Hit a b c d
  hit_of (inl m) =
      (hit_by a b c d (pos 1) (one_positive C m.apart) (one_low G m.from_first) (one_order G C m.to_first)
      (one_low H m.from_second) (one_order H C m.to_second)).0
  hit_of (inr m) =
      (hit_by a b c d (negsuc 0) (minus_positive C m.apart) (minus_low G m.from_first) (minus_order G C m.to_first)
      (minus_low H m.from_second) (minus_order H C m.to_second)).0

-- ---- the point in common
meet_x : (l g h e ax ay bx by cx cy dx dy : ℤ) → l ≡ e *ℤ cross (bx -ℤ ax) (by -ℤ ay) (dx -ℤ cx) (dy -ℤ cy)
    → g ≡ e *ℤ cross (dx -ℤ cx) (dy -ℤ cy) (ax -ℤ cx) (ay -ℤ cy)
    → h ≡ e *ℤ cross (bx -ℤ ax) (by -ℤ ay) (ax -ℤ cx) (ay -ℤ cy) →
    l *ℤ ax +ℤ g *ℤ (bx -ℤ ax) ≡ l *ℤ cx +ℤ h *ℤ (dx -ℤ cx)
meet_x l g h e ax ay bx by cx cy dx dy i j k = rw (i, j, k) (ring (e ∷ ax ∷ ay ∷ bx ∷ by ∷ cx ∷ cy ∷ dx ∷ dy ∷ [])
    ((x0 ⊗ crossE (x3 ⊖ x1) (x4 ⊖ x2) (x7 ⊖ x5) (x8 ⊖ x6)) ⊗ x1 ⊕ (x0 ⊗ crossE (x7 ⊖ x5) (x8 ⊖ x6) (x1 ⊖ x5) (x2 ⊖ x6))
    ⊗ (x3 ⊖ x1))
    ((x0 ⊗ crossE (x3 ⊖ x1) (x4 ⊖ x2) (x7 ⊖ x5) (x8 ⊖ x6)) ⊗ x5 ⊕ (x0 ⊗ crossE (x3 ⊖ x1) (x4 ⊖ x2) (x1 ⊖ x5) (x2 ⊖ x6))
    ⊗ (x7 ⊖ x5)) tt)

meet_y : (l g h e ax ay bx by cx cy dx dy : ℤ) → l ≡ e *ℤ cross (bx -ℤ ax) (by -ℤ ay) (dx -ℤ cx) (dy -ℤ cy)
    → g ≡ e *ℤ cross (dx -ℤ cx) (dy -ℤ cy) (ax -ℤ cx) (ay -ℤ cy)
    → h ≡ e *ℤ cross (bx -ℤ ax) (by -ℤ ay) (ax -ℤ cx) (ay -ℤ cy) →
    l *ℤ ay +ℤ g *ℤ (by -ℤ ay) ≡ l *ℤ cy +ℤ h *ℤ (dy -ℤ cy)
meet_y l g h e ax ay bx by cx cy dx dy i j k = rw (i, j, k) (ring (e ∷ ax ∷ ay ∷ bx ∷ by ∷ cx ∷ cy ∷ dx ∷ dy ∷ [])
    ((x0 ⊗ crossE (x3 ⊖ x1) (x4 ⊖ x2) (x7 ⊖ x5) (x8 ⊖ x6)) ⊗ x2 ⊕ (x0 ⊗ crossE (x7 ⊖ x5) (x8 ⊖ x6) (x1 ⊖ x5) (x2 ⊖ x6))
    ⊗ (x4 ⊖ x2))
    ((x0 ⊗ crossE (x3 ⊖ x1) (x4 ⊖ x2) (x7 ⊖ x5) (x8 ⊖ x6)) ⊗ x6 ⊕ (x0 ⊗ crossE (x3 ⊖ x1) (x4 ⊖ x2) (x1 ⊖ x5) (x2 ⊖ x6))
    ⊗ (x8 ⊖ x6)) tt)

pub met_x : (a b c d : Point) (h : Hit a b c d) → pos h.all *ℤ a.x +ℤ pos h.along *ℤ (b.x -ℤ a.x)
    ≡ pos h.all *ℤ c.x +ℤ pos h.across *ℤ (d.x -ℤ c.x)
met_x a b c d h =
    meet_x (pos h.all) (pos h.along) (pos h.across) h.sign a.x a.y b.x b.y c.x c.y d.x d.y h.all_is h.along_is
    h.across_is

pub met_y : (a b c d : Point) (h : Hit a b c d) → pos h.all *ℤ a.y +ℤ pos h.along *ℤ (b.y -ℤ a.y)
    ≡ pos h.all *ℤ c.y +ℤ pos h.across *ℤ (d.y -ℤ c.y)
met_y a b c d h =
    meet_y (pos h.all) (pos h.along) (pos h.across) h.sign a.x a.y b.x b.y c.x c.y d.x d.y h.all_is h.along_is
    h.across_is

-- as points of the two segments
on_both : (l g h : ℕ) (a b c d : ℤ) → g ≤ l → h ≤ l → pos l *ℤ a +ℤ pos g *ℤ (b -ℤ a) ≡ pos l *ℤ c +ℤ pos h *ℤ (d -ℤ c)
    →
    pos (l - g) *ℤ a +ℤ pos g *ℤ b ≡ pos (l - h) *ℤ c +ℤ pos h *ℤ d
on_both l g h a b c d k m e = rw (less l g k, less l h m) (at (pos l) (pos g) a b ∙ e ∙ sym (at (pos l) (pos h) c d))
  where
    at : (l g a b : ℤ) → (l -ℤ g) *ℤ a +ℤ g *ℤ b ≡ l *ℤ a +ℤ g *ℤ (b -ℤ a)
    at l g a b = ring (l ∷ g ∷ a ∷ b ∷ []) ((x0 ⊖ x1) ⊗ x2 ⊕ x1 ⊗ x3) (x0 ⊗ x2 ⊕ x1 ⊗ (x3 ⊖ x2)) tt

pub one_point : (a b : Point) (e : Segment) (h : Hit a b e.from e.to)
    → point_at h.all h.along (let g : Segment = record { from = a; to = b } in g) ≡ point_at h.all h.across e
one_point a b e h = point_is _ _ _ _
    (on_both h.all h.along h.across a.x b.x e.from.x e.to.x h.along_within h.across_within (met_x a b e.from e.to h))
    (on_both h.all h.along h.across a.y b.y e.from.y e.to.y h.along_within h.across_within (met_y a b e.from e.to h))

-- ---- touching
pub at_nothing : (x y : ℤ) (m : ℕ) → x ≡ pos 0 → y ≡ pos 0 → (pos 4 *ℤ squared x y) ≤ℤ pos m
at_nothing x y m e f = by (squared x y) m (ap₂ squared e f)
  where
    by : (z : ℤ) (m : ℕ) → z ≡ pos 0 → (pos 4 *ℤ z) ≤ℤ pos m
    by z m e = omega (arith, ints)

-- a part of g, n times as large, hits an edge n times as large: g touches the edge
hit_part : (n i l g h : ℕ) (a b c d : ℤ) → i ≤ n → g ≤ l → h ≤ l →
    pos l *ℤ (pos n *ℤ a) +ℤ pos g *ℤ ((pos (n - i) *ℤ a +ℤ pos i *ℤ b) -ℤ pos n *ℤ a)
    ≡ pos l *ℤ (pos n *ℤ c) +ℤ pos h *ℤ (pos n *ℤ d -ℤ pos n *ℤ c) →
    apart (l * n) (g * i) (h * n) a b c d ≡ pos 0
hit_part n i l g h a b c d hi hg hh e =
    let gi : g * i ≤ l * n = mul-le-mul hg hi in
    let hn : h * n ≤ l * n = mul-le-mul hh (le_refl n) in
    rw (less (l * n) (g * i) gi, less (l * n) (h * n) hn)
    (ring (pos l ∷ pos n ∷ pos g ∷ pos i ∷ pos h ∷ a ∷ b ∷ c ∷ d ∷ [])
    (((x0 ⊗ x1 ⊖ x2 ⊗ x3) ⊗ x5 ⊕ (x2 ⊗ x3) ⊗ x6) ⊖ ((x0 ⊗ x1 ⊖ x4 ⊗ x1) ⊗ x7 ⊕ (x4 ⊗ x1) ⊗ x8))
    ((x0 ⊗ (x1 ⊗ x5) ⊕ x2 ⊗ (((x1 ⊖ x3) ⊗ x5 ⊕ x3 ⊗ x6) ⊖ x1 ⊗ x5)) ⊖ (x0 ⊗ (x1 ⊗ x7) ⊕ x4 ⊗ (x1 ⊗ x8 ⊖ x1 ⊗ x7))) tt
    ∙ nil (pos l *ℤ (pos n *ℤ a) +ℤ pos g *ℤ (((pos n -ℤ pos i) *ℤ a +ℤ pos i *ℤ b) -ℤ pos n *ℤ a))
    (pos l *ℤ (pos n *ℤ c) +ℤ pos h *ℤ (pos n *ℤ d -ℤ pos n *ℤ c)) (rw (less n i hi) at e))
  where
    nil : (x y : ℤ) → x ≡ y → x -ℤ y ≡ pos 0
    nil x y e = omega (arith, ints)

pub part_touches : (g e : Segment) (k n i : ℕ) → 0 < n → i ≤ n
    → Hit (stretched n g.from) (point_at n i g) (stretched n e.from) (stretched n e.to) → Touches k g e
part_touches g e k n i positive l h = record {
  n = h.all * n;
  s = h.along * i;
  t = h.across * n;
  some = mul-pos h.some positive;
  s_within = mul-le-mul h.along_within l;
  t_within = mul-le-mul h.across_within (le_refl n);
  touch = at_nothing (apart (h.all * n) (h.along * i) (h.across * n) g.from.x g.to.x e.from.x e.to.x)
      (apart (h.all * n) (h.along * i) (h.across * n) g.from.y g.to.y e.from.y e.to.y)
      (k * k * (h.all * n * (h.all * n)))
      (hit_part n i h.all h.along h.across g.from.x g.to.x e.from.x e.to.x l h.along_within h.across_within
      (met_x (stretched n g.from) (point_at n i g) (stretched n e.from) (stretched n e.to) h))
      (hit_part n i h.all h.along h.across g.from.y g.to.y e.from.y e.to.y l h.along_within h.across_within
      (met_y (stretched n g.from) (point_at n i g) (stretched n e.from) (stretched n e.to) h));
}
