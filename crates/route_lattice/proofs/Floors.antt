-- What rounding down and up mean: the two sides of a product.
use Rattle.std.proofs.Common.{◌≡◌, ℕ, zero, suc, ℤ, pos, negsuc, ◌<◌, ◌≤◌, ◌*◌, ◌+ℤ◌, ◌-ℤ◌, ◌*ℤ◌, ◌≤ℤ◌, ◌<ℤ◌, arith}
use Rattle.std.proofs.Common.{refl, ap, ◌∙◌, unsigned_abs, ◌^◌}
use Rattle.std.proofs.Math.IntN.{suc_ℤ, suc_ℤ-*ℤ}
use Rattle.std.proofs.lemmas.Int.{ints, by_lt_z}
use Rattle.std.proofs.lemmas.Nat.{div-add-mod', mod_below}
use Rattle.std.proofs.Math.Nat.{mul-le-mul_right}
use Rattle.route_lattice.specs.Round.{floor_div, ceil_div, nearest}

pub times_le : (n : ℕ) (x y : ℤ) → x ≤ℤ y → (x *ℤ pos n) ≤ℤ (y *ℤ pos n)
times_le n (pos a) (pos b) h = let k : a ≤ b = omega (arith, ints) in let m = mul-le-mul_right n k in
    omega (arith, ints)
times_le n (pos a) (negsuc b) h = absurd (omega (arith, ints))
times_le n (negsuc a) (pos b) h = omega (arith, ints)
times_le n (negsuc a) (negsuc b) h = let k : b ≤ a = omega (arith, ints) in let m = mul-le-mul_right n k in
    omega (arith, ints)

one_more : (x : ℤ) → x +ℤ pos 1 ≡ suc_ℤ x
one_more (pos a) = omega (arith, ints)
one_more (negsuc zero) = refl
one_more (negsuc (suc a)) = omega (arith, ints)

pub times_more : (n : ℕ) (x : ℤ) → (x +ℤ pos 1) *ℤ pos n ≡ x *ℤ pos n +ℤ pos n
times_more n x = ap (λ z. z *ℤ pos n) (one_more x) ∙ suc_ℤ-*ℤ x (pos n)

pub floor_le : (z : ℤ) (n : ℕ) → 0 < n → (floor_div z n *ℤ pos n) ≤ℤ z
floor_le (pos a) n h = let e = div-add-mod' a n in omega (arith, ints)
floor_le (negsuc a) n h = let e = div-add-mod' a n in let m = mod_below a n h in omega (arith, ints)

pub floor_above : (z : ℤ) (n : ℕ) → 0 < n → z <ℤ (floor_div z n *ℤ pos n +ℤ pos n)
floor_above (pos a) n h = let e = div-add-mod' a n in let m = mod_below a n h in omega (arith, ints)
floor_above (negsuc a) n h = let e = div-add-mod' a n in omega (arith, ints)

-- q n ≤ z exactly where q is at most the quotient
pub floor_least : (q z : ℤ) (n : ℕ) → 0 < n → (q *ℤ pos n) ≤ℤ z → q ≤ℤ floor_div z n
floor_least q z n h k =
    by_lt_z (floor_div z n) q
    (λ l. let a : (floor_div z n +ℤ pos 1) ≤ℤ q = omega (arith, ints) in
    let b = times_le n (floor_div z n +ℤ pos 1) q a in
    let c = times_more n (floor_div z n) in
    let d = floor_above z n h in
    absurd (clash (floor_div z n *ℤ pos n) ((floor_div z n +ℤ pos 1) *ℤ pos n) (q *ℤ pos n) z (pos n) c b k d))
    (λ l. l)
  where
    clash : (f g q z n : ℤ) → g ≡ f +ℤ n → g ≤ℤ q → q ≤ℤ z → z <ℤ (f +ℤ n) → ⊥
    clash f g q z n e a b c = omega (arith, ints)

pub floor_reaches : (q z : ℤ) (n : ℕ) → 0 < n → q ≤ℤ floor_div z n → (q *ℤ pos n) ≤ℤ z
floor_reaches q z n h k =
    chain (q *ℤ pos n) (floor_div z n *ℤ pos n) z (times_le n q (floor_div z n) k) (floor_le z n h)
  where
    chain : (a b c : ℤ) → a ≤ℤ b → b ≤ℤ c → a ≤ℤ c
    chain a b c h k = omega (arith, ints)

-- z ≤ q n exactly where q is at least the quotient rounded up
pub ceil_least : (q z : ℤ) (n : ℕ) → 0 < n → z ≤ℤ (q *ℤ pos n) → ceil_div z n ≤ℤ q
ceil_least q z n h k =
    by_lt_z q (ceil_div z n)
    (λ l. let a : (q +ℤ pos 1) ≤ℤ ceil_div z n = omega (arith, ints) in
    let b = floor_reaches (q +ℤ pos 1) (z +ℤ (pos n -ℤ pos 1)) n h a in
    let c = times_more n q in
    absurd (clash (q *ℤ pos n) ((q +ℤ pos 1) *ℤ pos n) z (pos n) c b k))
    (λ l. l)
  where
    clash : (f g z n : ℤ) → g ≡ f +ℤ n → g ≤ℤ (z +ℤ (n -ℤ pos 1)) → z ≤ℤ f → ⊥
    clash f g z n e a b = omega (arith, ints)

pub ceil_reaches : (q z : ℤ) (n : ℕ) → 0 < n → ceil_div z n ≤ℤ q → z ≤ℤ (q *ℤ pos n)
ceil_reaches q z n h k =
    let a = times_le n (ceil_div z n) q k in
    let b = floor_above (z +ℤ (pos n -ℤ pos 1)) n h in
    chain (ceil_div z n *ℤ pos n) (q *ℤ pos n) z (pos n) a b
  where
    chain : (f g z n : ℤ) → f ≤ℤ g → (z +ℤ (n -ℤ pos 1)) <ℤ (f +ℤ n) → z ≤ℤ g
    chain f g z n a b = omega (arith, ints)

double : (q : ℤ) (n : ℕ) → q *ℤ pos (2 * n) ≡ pos 2 *ℤ (q *ℤ pos n)
double (pos a) n = omega (arith, ints)
double (negsuc a) n = omega (arith, ints)

-- to nearest, half upwards: 2 r ≤ 2 z + unit < 2 r + 2 unit
pub nearest_reaches : (unit : ℕ) (z : ℤ) → 0 < unit → (pos 2 *ℤ nearest unit z) ≤ℤ (pos 2 *ℤ z +ℤ pos unit)
nearest_reaches unit z h =
    let w = pos 2 *ℤ z +ℤ pos unit in
    let a = floor_le w (2 * unit) (omega arith) in
    let b = double (floor_div w (2 * unit)) unit in
    by (floor_div w (2 * unit) *ℤ pos (2 * unit)) (pos 2 *ℤ nearest unit z) w b a
  where
    by : (x y w : ℤ) → x ≡ y → x ≤ℤ w → y ≤ℤ w
    by x y w e h = omega (arith, ints)

pub nearest_above : (unit : ℕ) (z : ℤ) → 0 < unit → (pos 2 *ℤ z) <ℤ (pos 2 *ℤ nearest unit z +ℤ pos unit)
nearest_above unit z h =
    let w = pos 2 *ℤ z +ℤ pos unit in
    let a = floor_above w (2 * unit) (omega arith) in
    let b = double (floor_div w (2 * unit)) unit in
    by (floor_div w (2 * unit) *ℤ pos (2 * unit)) (pos 2 *ℤ nearest unit z) (pos 2 *ℤ z) b a
  where
    by : (x y w : ℤ) → x ≡ y → (w +ℤ pos unit) <ℤ (x +ℤ pos (2 * unit)) → w <ℤ (y +ℤ pos unit)
    by x y w e h = omega (arith, ints)

pub nearest_small : (unit : ℕ) (z : ℤ) → 0 < unit → unit ≤ 2 ^ 29 → unsigned_abs z ≤ 2 ^ 29
    → unsigned_abs (nearest unit z) ≤ 2 ^ 30
nearest_small unit z h k l = by (nearest unit z) (nearest_reaches unit z h) (nearest_above unit z h)
  where
    by : (r : ℤ) → (pos 2 *ℤ r) ≤ℤ (pos 2 *ℤ z +ℤ pos unit) → (pos 2 *ℤ z) <ℤ (pos 2 *ℤ r +ℤ pos unit)
        → unsigned_abs r ≤ 2 ^ 30
    by r a b = omega (arith, ints)

-- the least multiple above
pub above_small : (z : ℤ) (n : ℕ) → 0 < n → n ≤ 2 ^ 30 → unsigned_abs z ≤ 2 ^ 29
    → unsigned_abs ((floor_div z n +ℤ pos 1) *ℤ pos n) ≤ 2 ^ 31
above_small z n h k l =
    by (floor_div z n *ℤ pos n) ((floor_div z n +ℤ pos 1) *ℤ pos n) (times_more n (floor_div z n)) (floor_le z n h)
    (floor_above z n h)
  where
    by : (f g : ℤ) → g ≡ f +ℤ pos n → f ≤ℤ z → z <ℤ (f +ℤ pos n) → unsigned_abs g ≤ 2 ^ 31
    by f g e a b = omega (arith, ints, e, a, b, k, l)

-- the least multiple from z on
pub ceil_small : (z : ℤ) (n : ℕ) → 0 < n → n ≤ 2 ^ 30 → unsigned_abs z ≤ 2 ^ 29
    → unsigned_abs (ceil_div z n *ℤ pos n) ≤ 2 ^ 31
ceil_small z n h k l =
    let w = z +ℤ (pos n -ℤ pos 1) in by (ceil_div z n *ℤ pos n) (floor_le w n h) (floor_above w n h)
  where
    by : (g : ℤ) → g ≤ℤ (z +ℤ (pos n -ℤ pos 1)) → (z +ℤ (pos n -ℤ pos 1)) <ℤ (g +ℤ pos n) → unsigned_abs g ≤ 2 ^ 31
    by g a b = omega (arith, ints, a, b, k, l, h)
