-- The multiples of a span are close to its bounds.
use Rattle.std.proofs.Common.{ℕ, ℤ, pos, ◌<◌, ◌≤◌, ◌^◌, ◌+ℤ◌, ◌*ℤ◌, ◌≤ℤ◌, ◌<ℤ◌, arith, subst, unsigned_abs}
use Rattle.std.proofs.lemmas.Int.{ints, unsigned_abs-mul}
use Rattle.route_lattice.specs.Round.{rounded_down}
use Rattle.route_lattice.specs.Spans.{IsSpan, StaysClose}
use Rattle.route_lattice.proofs.Floors.{floor_le, floor_above}

pub stays_close : (unit grid : ℕ) (low high first last : ℤ) → 0 < unit → unit ≤ 2 ^ 29 → unsigned_abs low ≤ 2 ^ 29
    → unsigned_abs high ≤ 2 ^ 29 → IsSpan unit grid low high first last → StaysClose grid first last
stays_close unit grid low high first last hu hs hl hh s = record {
  close = λ k a b.
      let w = s.lies k a b in
      let z = k *ℤ pos grid in
      subst (λ n. n ≤ 2 ^ 32) (unsigned_abs-mul k (pos grid))
      (near z (rounded_down unit z) (floor_le z unit hu) (floor_above z unit hu) w.0 w.1);
}
  where
    near : (z d : ℤ) → d ≤ℤ z → z <ℤ (d +ℤ pos unit) → low <ℤ d → d <ℤ high → unsigned_abs z ≤ 2 ^ 32
    near z d a b l h = omega (arith, ints)
