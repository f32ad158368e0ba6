-- How the numbers of tiles go with coordinates.
use Rattle.std.proofs.Common.{◌≡◌, ℕ, ℤ, pos, ◌+◌, ◌*◌, ◌^◌, ◌/◌, ◌<◌, ◌≤◌, ◌-◌, max, arith, ap, ap₂, subst, ◌∙◌}
use Rattle.std.specs.Prelude.{neg_ℤ, ◌≤ℤ◌, ◌+ℤ◌, ◌-ℤ◌, ◌*ℤ◌, ◌<ℤ◌, unsigned_abs}
use Rattle.std.proofs.lemmas.Int.{ints, clamps, by_lt_z, to_z-of_z}
use Rattle.geo_kernel.specs.Boxes.{IsGap}
use Rattle.std.specs.Int.{int_min, int_max}
use mir.Val.{SFits, to_z, of_z}
use mir.Syntax.{w64}
use lib.IntN.{negsuc}
use Rattle.geo_kernel.specs.declared.point.Rect4.{Rect4}
use Rattle.pcb_tiles.specs.declared.block.Block.{Block}
use Rattle.pcb_tiles.specs.Tiling.{tile_of, clamped, place_of, count_of, block_of, half_up, IsArea, IsBlockIn}

div_rises : (a b : ℕ) → a ≤ b → a / 2000000 ≤ b / 2000000
div_rises a b h = omega (arith, h)

pub tile_rises : (z w : ℤ) → z ≤ℤ w → neg_ℤ (pos 2000000000) ≤ℤ z → tile_of z ≤ tile_of w
tile_rises z w h l =
    div_rises (unsigned_abs (z +ℤ pos 2000000000)) (unsigned_abs (w +ℤ pos 2000000000)) (omega (arith, ints, h, l))

low_bound : (lo : ℤ) → unsigned_abs lo ≤ 536870912 → neg_ℤ (pos 2000000000) ≤ℤ lo
low_bound lo h = omega (arith, ints, h)

clamped_from : (lo hi z : ℤ) → lo ≤ℤ hi → lo ≤ℤ clamped lo hi z
clamped_from lo hi z h = omega (arith, ints, clamps)

clamped_to : (lo hi z : ℤ) → lo ≤ℤ hi → clamped lo hi z ≤ℤ hi
clamped_to lo hi z h = omega (arith, ints, clamps)

clamped_rises : (lo hi z w : ℤ) → lo ≤ℤ hi → z ≤ℤ w → clamped lo hi z ≤ℤ clamped lo hi w
clamped_rises lo hi z w h k = omega (arith, ints, clamps)

pub place_rises : (lo hi z w : ℤ) → lo ≤ℤ hi → unsigned_abs lo ≤ 536870912 → z ≤ℤ w
    → place_of lo hi z ≤ place_of lo hi w
place_rises lo hi z w h b k =
    let l = low_bound lo b in
    let m = clamped_from lo hi z h in
    let t = tile_rises (clamped lo hi z) (clamped lo hi w) (clamped_rises lo hi z w h k)
    (omega (arith, ints, l, m)) in
    omega (arith, t)

pub place_below : (lo hi z : ℤ) → lo ≤ℤ hi → unsigned_abs lo ≤ 536870912 → place_of lo hi z < count_of lo hi
place_below lo hi z h b =
    let l = low_bound lo b in
    let m = clamped_from lo hi z h in
    let t = tile_rises (clamped lo hi z) hi (clamped_to lo hi z h) (omega (arith, ints, l, m)) in
    omega (arith, t)

block_is_of : (a b c d e f g h : ℕ) → a ≡ e → b ≡ f → c ≡ g → d ≡ h → (let k : Block = record {
  first_column = a;
  last_column = b;
  first_row = c;
  last_row = d;
} in k) ≡ record {
  first_column = e;
  last_column = f;
  first_row = g;
  last_row = h;
}
block_is_of a b c d e f g h p q r s = cc

pub block_is : (area bounds : Rect4) (by : ℕ) (fc lc fr lr pc pr : ℕ)
    → fc ≡ place_of area.x0 area.x1 (bounds.x0 -ℤ pos by) → fr ≡ place_of area.y0 area.y1 (bounds.y0 -ℤ pos by)
    → pc ≡ place_of area.x0 area.x1 (bounds.x1 +ℤ pos by)
    → pr ≡ place_of area.y0 area.y1 (bounds.y1 +ℤ pos by) → lc ≡ max pc fc → lr ≡ max pr fr
    → (let k : Block = record {
      first_column = fc;
      last_column = lc;
      first_row = fr;
      last_row = lr;
    } in k) ≡ block_of area bounds by
block_is area bounds by fc lc fr lr pc pr a b c d e f =
    let x0 = place_of area.x0 area.x1 (bounds.x0 -ℤ pos by) in
    let y0 = place_of area.y0 area.y1 (bounds.y0 -ℤ pos by) in
    let x1 = place_of area.x0 area.x1 (bounds.x1 +ℤ pos by) in
    let y1 = place_of area.y0 area.y1 (bounds.y1 +ℤ pos by) in
    block_is_of fc lc fr lr x0 (max x1 x0) y0 (max y1 y0) a (e ∙ (ap (λ (n : ℕ). max n fc) c ∙ ap (max x1) a)) b
    (f ∙ (ap (λ (n : ℕ). max n fr) d ∙ ap (max y1) b))

pub fits64 : (z : ℤ) → unsigned_abs z ≤ 2 ^ 30 → SFits w64 z
fits64 (pos n) h = record { sfits = omega (arith, h) }
fits64 (negsuc n) h = record { sfits = omega (arith, h) }

-- what the code sees of a coordinate is the coordinate
seen_same : (z : ℤ) → unsigned_abs z ≤ 2 ^ 29 → to_z w64 (of_z w64 z) ≡ z
seen_same z h = to_z-of_z w64 z (fits64 z (omega (arith, h)))

-- the lesser of two numbers that fit fits
lesser_fits : (a b : ℤ) → SFits w64 a → SFits w64 b → SFits w64 (int_min a b)
lesser_fits a b f g =
    by_lt_z {P = SFits w64 (int_min a b)} a b
    (λ k. let e : a ≡ int_min a b = omega (arith, ints, clamps, k) in subst (λ (t : ℤ). SFits w64 t) e f)
    (λ k. let e : b ≡ int_min a b = omega (arith, ints, clamps, k) in subst (λ (t : ℤ). SFits w64 t) e g)

-- the code's nearest coordinate is the nearest one
pub nearest_is : (lo hi z m n : ℤ) → unsigned_abs lo ≤ 2 ^ 29 → unsigned_abs hi ≤ 2 ^ 29 → SFits w64 z
    → m ≡ int_min (to_z w64 (of_z w64 z)) (to_z w64 (of_z w64 hi))
    → n ≡ int_max (to_z w64 (of_z w64 m)) (to_z w64 (of_z w64 lo)) → n ≡ clamped lo hi z
nearest_is lo hi z m n low high fits m_is n_is =
    let less : m ≡ int_min z hi = m_is ∙ ap₂ int_min (to_z-of_z w64 z fits) (seen_same hi high) in
    let seen : to_z w64 (of_z w64 m) ≡ int_min z hi = ap (λ (t : ℤ). to_z w64 (of_z w64 t)) less
    ∙ to_z-of_z w64 (int_min z hi) (lesser_fits z hi fits (fits64 hi (omega (arith, high)))) in
    n_is ∙ ap₂ int_max seen (seen_same lo low)

-- it is within the bound of its ends
pub nearest_small : (lo hi z n : ℤ) → lo ≤ℤ hi → unsigned_abs lo ≤ 2 ^ 29 → unsigned_abs hi ≤ 2 ^ 29
    → n ≡ clamped lo hi z → unsigned_abs n ≤ 2 ^ 29
nearest_small lo hi z n rises low high is =
    omega (arith, ints, rises, low, high, is, clamped_from lo hi z rises, clamped_to lo hi z rises)

-- a coordinate has a tile as the code sees it
pub seen_small : (z : ℤ) → unsigned_abs z ≤ 2 ^ 29 → unsigned_abs (to_z w64 (of_z w64 z)) ≤ 2 ^ 30
seen_small z h = omega (arith, ap unsigned_abs (seen_same z h), h)

-- its tile, counted from the tile of the first
pub place_counted : (lo hi z n : ℤ) (a b : ℕ) → unsigned_abs lo ≤ 2 ^ 29 → unsigned_abs n ≤ 2 ^ 29
    → n ≡ clamped lo hi z → a ≡ tile_of (to_z w64 (of_z w64 n)) → b ≡ tile_of (to_z w64 (of_z w64 lo))
    → (a - b) ≡ place_of lo hi z
place_counted lo hi z n a b low small is a_is b_is =
    ap₂ (λ (i j : ℕ). i - j) (a_is ∙ ap tile_of (seen_same n small ∙ is)) (b_is ∙ ap tile_of (seen_same lo low))

pub fits_less : (z : ℤ) (by : ℕ) → unsigned_abs z ≤ 2 ^ 29 → by ≤ 2 ^ 29 → unsigned_abs (z -ℤ pos by) ≤ 2 ^ 30
fits_less z by h k = omega (arith, ints, h, k)

pub fits_more : (z : ℤ) (by : ℕ) → unsigned_abs z ≤ 2 ^ 29 → by ≤ 2 ^ 29 → unsigned_abs (z +ℤ pos by) ≤ 2 ^ 30
fits_more z by h k = omega (arith, ints, h, k)

pub fits_same : (z : ℤ) → unsigned_abs z ≤ 2 ^ 29 → SFits w64 z
fits_same z h = fits64 z (omega (arith, h))

pub block_in : (area box : Rect4) (by : ℕ) → IsArea area → IsBlockIn area (block_of area box by)
block_in area box by h =
    let x0 = place_below area.x0 area.x1 (box.x0 -ℤ pos by) h.x_rises h.within.x0_within in
    let x1 = place_below area.x0 area.x1 (box.x1 +ℤ pos by) h.x_rises h.within.x0_within in
    let y0 = place_below area.y0 area.y1 (box.y0 -ℤ pos by) h.y_rises h.within.y0_within in
    let y1 = place_below area.y0 area.y1 (box.y1 +ℤ pos by) h.y_rises h.within.y0_within in
    record {
      columns = omega arith;
      order = omega arith;
      columns_within = omega (arith, x0, x1);
      rows_within = omega (arith, y0, y1);
    }

-- ---- far tiles
place_falls : (lo hi z w : ℤ) → lo ≤ℤ hi → unsigned_abs lo ≤ 536870912 → place_of lo hi z < place_of lo hi w → z <ℤ w
place_falls lo hi z w h b l =
    by_lt_z {P = z <ℤ w} z w (λ k. k) (λ k. absurd (let r = place_rises lo hi w z h b k in omega (arith, l, r)))

gap_is : (a b : ℤ) (by hb k v : ℕ) → (a +ℤ pos by) <ℤ (b -ℤ pos hb) → k ≤ 2 * by → v ≤ 2 * hb
    → pos (k + v + 1) ≤ℤ (pos 2 *ℤ (b -ℤ a))
gap_is a b by hb k v h m n = omega (arith, ints, h, m, n)

half_up_enough : (w : ℕ) → w ≤ 2 * half_up w
half_up_enough w = omega arith

-- a block that ends before the other begins leaves a gap
pub gap_between : (lo hi : ℤ) (a b : ℤ) (by w k : ℕ) → lo ≤ℤ hi → unsigned_abs lo ≤ 536870912 → k ≤ 2 * by
    → place_of lo hi (a +ℤ pos by) < place_of lo hi (b -ℤ pos (half_up w)) → IsGap a b (k + w + 1)
gap_between lo hi a b by w k h m n l =
    gap_is a b by (half_up w) k w (place_falls lo hi (a +ℤ pos by) (b -ℤ pos (half_up w)) h m l) n (half_up_enough w)

pub gap_before : (lo hi : ℤ) (a b : ℤ) (by w k : ℕ) → lo ≤ℤ hi → unsigned_abs lo ≤ 536870912 → k ≤ 2 * by
    → place_of lo hi (a +ℤ pos (half_up w)) < place_of lo hi (b -ℤ pos by) → IsGap a b (k + w + 1)
gap_before lo hi a b by w k h m n l =
    let g = gap_is a b (half_up w) by w k (place_falls lo hi (a +ℤ pos (half_up w)) (b -ℤ pos by) h m l)
    (half_up_enough w) n in
    omega (arith, ints, g)

pub place_same : (lo hi z lo' hi' z' : ℤ) (r : ℕ) → r ≡ place_of lo hi z → lo ≡ lo' → hi ≡ hi' → z ≡ z'
    → r ≡ place_of lo' hi' z'
place_same lo hi z lo' hi' z' r e a b c =
    let F : ℤ → ℕ = λ x. place_of x hi z in
    let G : ℤ → ℕ = λ x. place_of lo' x z in
    let H : ℤ → ℕ = λ x. place_of lo' hi' x in
    e ∙ (ap F a ∙ (ap G b ∙ ap H c))
