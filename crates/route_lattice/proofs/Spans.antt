-- The lines of the grid between two numbers, and lists of lines.
use Rattle.std.proofs.Common.{◌≡◌, ℕ, ℤ, pos, ◌<◌, ◌≤◌, ◌+ℤ◌, ◌*ℤ◌, ◌≤ℤ◌, ◌<ℤ◌, arith}
use Rattle.std.proofs.lemmas.Int.{ints, by_lt_z}
use Rattle.route_lattice.specs.Round.{floor_div, ceil_div, rounded_down}
use Rattle.route_lattice.specs.Spans.{IsSpan}
use Rattle.route_lattice.proofs.Floors.{times_le, times_more, floor_le, floor_above, floor_least, floor_reaches}
use Rattle.route_lattice.proofs.Floors.{ceil_least, ceil_reaches}

-- which multiples of the grid, rounded down, lie strictly between low and high
module _ (unit grid : ℕ) (low high : ℤ) (hu : 0 < unit) (hg : 0 < grid) where
  abbrev pub first : ℤ
  first = ceil_div ((floor_div low unit +ℤ pos 1) *ℤ pos unit) grid

  abbrev pub last : ℤ
  last = ceil_div (ceil_div high unit *ℤ pos unit) grid

  above : (q : ℤ) → low <ℤ (q *ℤ pos unit) → (floor_div low unit +ℤ pos 1) ≤ℤ q
  above q h =
      by_lt_z q (floor_div low unit +ℤ pos 1)
      (λ l. let a : q ≤ℤ floor_div low unit = omega (arith, ints) in
      let b = floor_reaches q low unit hu a in
      absurd (clash (q *ℤ pos unit) low h b))
      (λ l. l)
    where
      clash : (x y : ℤ) → y <ℤ x → x ≤ℤ y → ⊥
      clash x y h k = omega (arith, ints)

  over : (q : ℤ) → (floor_div low unit +ℤ pos 1) ≤ℤ q → low <ℤ (q *ℤ pos unit)
  over q h =
      let a = times_le unit (floor_div low unit +ℤ pos 1) q h in
      let b = times_more unit (floor_div low unit) in
      let c = floor_above low unit hu in
      chain (floor_div low unit *ℤ pos unit) ((floor_div low unit +ℤ pos 1) *ℤ pos unit) (q *ℤ pos unit) low (pos unit)
      b a c
    where
      chain : (f g x l u : ℤ) → g ≡ f +ℤ u → g ≤ℤ x → l <ℤ (f +ℤ u) → l <ℤ x
      chain f g x l u e a c = omega (arith, ints)

  below : (q : ℤ) → (q *ℤ pos unit) <ℤ high → q <ℤ ceil_div high unit
  below q h =
      by_lt_z q (ceil_div high unit) (λ l. l)
      (λ l. absurd (clash (q *ℤ pos unit) h (ceil_reaches q high unit hu l)))
    where
      clash : (x : ℤ) → x <ℤ high → high ≤ℤ x → ⊥
      clash x h k = omega (arith, ints)

  under : (q : ℤ) → q <ℤ ceil_div high unit → (q *ℤ pos unit) <ℤ high
  under q h =
      by_lt_z (q *ℤ pos unit) high (λ l. l)
      (λ l. absurd (clash (ceil_div high unit) h (ceil_least q high unit hu l)))
    where
      clash : (x : ℤ) → q <ℤ x → x ≤ℤ q → ⊥
      clash x h k = omega (arith, ints)

  span_above : (k : ℤ) → low <ℤ rounded_down unit (k *ℤ pos grid) → first ≤ℤ k
  span_above k h = ceil_least k ((floor_div low unit +ℤ pos 1) *ℤ pos unit) grid hg
      (floor_reaches (floor_div low unit +ℤ pos 1) (k *ℤ pos grid) unit hu (above (floor_div (k *ℤ pos grid) unit) h))

  span_over : (k : ℤ) → first ≤ℤ k → low <ℤ rounded_down unit (k *ℤ pos grid)
  span_over k h = over (floor_div (k *ℤ pos grid) unit)
      (floor_least (floor_div low unit +ℤ pos 1) (k *ℤ pos grid) unit hu
      (ceil_reaches k ((floor_div low unit +ℤ pos 1) *ℤ pos unit) grid hg h))

  span_below : (k : ℤ) → rounded_down unit (k *ℤ pos grid) <ℤ high → k <ℤ last
  span_below k h = by_lt_z k last (λ l. l)
      (λ l. let a = ceil_reaches k (ceil_div high unit *ℤ pos unit) grid hg l in
      let b = floor_least (ceil_div high unit) (k *ℤ pos grid) unit hu a in
      absurd (clash (floor_div (k *ℤ pos grid) unit) (ceil_div high unit) (below (floor_div (k *ℤ pos grid) unit) h) b))
    where
      clash : (x y : ℤ) → x <ℤ y → y ≤ℤ x → ⊥
      clash x y h k = omega (arith, ints)

  span_under : (k : ℤ) → k <ℤ last → rounded_down unit (k *ℤ pos grid) <ℤ high
  span_under k h = by_lt_z (rounded_down unit (k *ℤ pos grid)) high (λ l. l)
      (λ l. let a = ceil_least (floor_div (k *ℤ pos grid) unit) high unit hu l in
      let b = floor_reaches (ceil_div high unit) (k *ℤ pos grid) unit hu a in
      absurd (clash k last h (ceil_least k (ceil_div high unit *ℤ pos unit) grid hg b)))
    where
      clash : (x y : ℤ) → x <ℤ y → y ≤ℤ x → ⊥
      clash x y h k = omega (arith, ints)

  pub span_is : IsSpan unit grid low high first last
  span_is = record {
    within = λ k a b. (span_above k a, span_below k b);
    lies = λ k a b. (span_over k a, span_under k b);
  }

-- the lines of greater multiples are greater, where the grid isn't below the unit
pub line_rises : (unit grid : ℕ) (k : ℤ) → 0 < unit → unit ≤ grid → rounded_down unit (k *ℤ pos grid)
    <ℤ rounded_down unit ((k +ℤ pos 1) *ℤ pos grid)
line_rises unit grid k hu hg =
    let q = floor_div (k *ℤ pos grid) unit in
    let a = floor_le (k *ℤ pos grid) unit hu in
    let b = times_more grid k in
    let c = times_more unit q in
    let d : ((q +ℤ pos 1) *ℤ pos unit) ≤ℤ ((k +ℤ pos 1) *ℤ pos grid) =
    step (q *ℤ pos unit) ((q +ℤ pos 1) *ℤ pos unit) (k *ℤ pos grid) ((k +ℤ pos 1) *ℤ pos grid) c a b in
    let e = floor_least (q +ℤ pos 1) ((k +ℤ pos 1) *ℤ pos grid) unit hu d in
    let f = times_le unit (q +ℤ pos 1) (floor_div ((k +ℤ pos 1) *ℤ pos grid) unit) e in
    rise (q *ℤ pos unit) ((q +ℤ pos 1) *ℤ pos unit) (rounded_down unit ((k +ℤ pos 1) *ℤ pos grid)) c f
  where
    step : (x y z w : ℤ) → y ≡ x +ℤ pos unit → x ≤ℤ z → w ≡ z +ℤ pos grid → y ≤ℤ w
    step x y z w e a f = omega (arith, ints)

    rise : (x y z : ℤ) → y ≡ x +ℤ pos unit → y ≤ℤ z → x <ℤ z
    rise x y z e h = omega (arith, ints)
