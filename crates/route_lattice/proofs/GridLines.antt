-- The test for a line of the grid, and grids finer than the unit.
use Rattle.std.proofs.Common.{◌≡◌, ℕ, ℤ, pos, ◌<◌, ◌≤◌, ◌+ℤ◌, ◌-ℤ◌, ◌*ℤ◌, ◌≤ℤ◌, ◌<ℤ◌, arith, sym, ap, ◌∙◌, subst, true}
use Rattle.std.proofs.lemmas.Int.{ints, by_lt_z}
use Rattle.route_lattice.specs.Round.{floor_div, ceil_div}
use Rattle.route_lattice.specs.Lines.{IsGridLine, is_grid_line}
use Rattle.route_lattice.proofs.Floors.{times_le, times_more, floor_le, floor_least, floor_reaches, ceil_least}
use Rattle.route_lattice.proofs.Floors.{ceil_reaches}
use Rattle.route_lattice.proofs.Sets.{int_eq_exact, int_eq_same}

self : (x : ℤ) → x ≤ℤ x
self x = omega (arith, ints)

both : (x y : ℤ) → x ≤ℤ y → y ≤ℤ x → x ≡ y
both x y h k = omega (arith, ints)

-- a multiple of the unit, rounded down, is itself
pub floor_times : (q : ℤ) (n : ℕ) → 0 < n → floor_div (q *ℤ pos n) n ≡ q
floor_times q n h =
    both (floor_div (q *ℤ pos n) n) q
    (by_lt_z q (floor_div (q *ℤ pos n) n)
    (λ l. let a : (q +ℤ pos 1) ≤ℤ floor_div (q *ℤ pos n) n = omega (arith, ints) in
    let b = times_le n (q +ℤ pos 1) (floor_div (q *ℤ pos n) n) a in
    let c = times_more n q in
    let d = floor_le (q *ℤ pos n) n h in
    absurd (clash (q *ℤ pos n) ((q +ℤ pos 1) *ℤ pos n) (floor_div (q *ℤ pos n) n *ℤ pos n) c b d))
    (λ l. l))
    (floor_least q (q *ℤ pos n) n h (self (q *ℤ pos n)))
  where
    clash : (f g w : ℤ) → g ≡ f +ℤ pos n → g ≤ℤ w → w ≤ℤ f → ⊥
    clash f g w e a b = omega (arith, ints)

-- quotients rise
pub floor_rises : (x y : ℤ) (n : ℕ) → 0 < n → x ≤ℤ y → floor_div x n ≤ℤ floor_div y n
floor_rises x y n h k = floor_least (floor_div x n) y n h (chain (floor_div x n *ℤ pos n) (floor_le x n h))
  where
    chain : (z : ℤ) → z ≤ℤ x → z ≤ℤ y
    chain z l = omega (arith, ints)

pub line_found : (unit grid : ℕ) (x : ℤ) → is_grid_line unit grid x ≡ true → IsGridLine unit grid x
line_found unit grid x h = (ceil_div x grid, int_eq_exact _ _ h)

-- the least multiple of the grid that isn't below a line gives the line
pub line_tested : (unit grid : ℕ) (x : ℤ) → 0 < unit → 0 < grid → IsGridLine unit grid x
    → is_grid_line unit grid x ≡ true
line_tested unit grid x hu hg (k, e) = int_eq_same _ _ (ap (λ q. q *ℤ pos unit) same ∙ e)
  where
    under : x ≤ℤ (k *ℤ pos grid)
    under = subst (λ z. z ≤ℤ (k *ℤ pos grid)) e (floor_le (k *ℤ pos grid) unit hu)

    first : ceil_div x grid ≤ℤ k
    first = ceil_least k x grid hg under

    low : floor_div (k *ℤ pos grid) unit ≤ℤ floor_div (ceil_div x grid *ℤ pos grid) unit
    low = floor_least (floor_div (k *ℤ pos grid) unit) (ceil_div x grid *ℤ pos grid) unit hu
        (subst (λ z. z ≤ℤ (ceil_div x grid *ℤ pos grid)) (sym e)
        (ceil_reaches (ceil_div x grid) x grid hg (self (ceil_div x grid))))

    high : floor_div (ceil_div x grid *ℤ pos grid) unit ≤ℤ floor_div (k *ℤ pos grid) unit
    high = floor_rises (ceil_div x grid *ℤ pos grid) (k *ℤ pos grid) unit hu (times_le grid (ceil_div x grid) k first)

    same : floor_div (ceil_div x grid *ℤ pos grid) unit ≡ floor_div (k *ℤ pos grid) unit
    same = both _ _ high low

-- a grid finer than the unit gives the same lines as the unit: every multiple of the unit
pub fine_line : (unit grid : ℕ) (x : ℤ) → 0 < grid → grid ≤ unit → IsGridLine unit unit x → IsGridLine unit grid x
fine_line unit grid x hg hu (k, e) =
    let u : 0 < unit = omega arith in
    let w = k *ℤ pos unit in
    let m = ceil_div w grid in
    let a = floor_least k (m *ℤ pos grid) unit u (ceil_reaches m w grid hg (self m)) in
    let b : floor_div (m *ℤ pos grid) unit ≤ℤ k =
    by_lt_z k (floor_div (m *ℤ pos grid) unit)
    (λ l. let c : (k +ℤ pos 1) ≤ℤ floor_div (m *ℤ pos grid) unit = after k (floor_div (m *ℤ pos grid) unit) l in
    let d = floor_reaches (k +ℤ pos 1) (m *ℤ pos grid) unit u c in
    let f = times_more unit k in
    let g = floor_le (w +ℤ (pos grid -ℤ pos 1)) grid hg in
    absurd (clash w ((k +ℤ pos 1) *ℤ pos unit) (m *ℤ pos grid) f d g))
    (λ l. l) in
    (m, ap (λ q. q *ℤ pos unit) (both _ _ b a ∙ sym (floor_times k unit u)) ∙ e)
  where
    after : (p q : ℤ) → p <ℤ q → (p +ℤ pos 1) ≤ℤ q
    after p q h = omega (arith, ints)

    clash : (x y z : ℤ) → y ≡ x +ℤ pos unit → y ≤ℤ z → z ≤ℤ (x +ℤ (pos grid -ℤ pos 1)) → ⊥
    clash x y z e a b = omega (arith, ints)

pub fine_line_back : (unit grid : ℕ) (x : ℤ) → 0 < unit → IsGridLine unit grid x → IsGridLine unit unit x
fine_line_back unit grid x hu (k, e) =
    (floor_div (k *ℤ pos grid) unit, ap (λ q. q *ℤ pos unit) (floor_times (floor_div (k *ℤ pos grid) unit) unit hu) ∙ e)
