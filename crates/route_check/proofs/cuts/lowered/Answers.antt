use Rattle.std.proofs.Common.{◌≡◌, ◌∙◌, ◌<◌, ℕ, Option, Some, ap, arith, inl, inr, subst, sym}
use Rattle.std.proofs.lemmas.Bool.{cases_lt}
use Rattle.route_check.specs.inner.Kept.{IsPinBelow}
use Rattle.route_check.proofs.cuts.lowered.Goals as goal

pub returns-in-None-clause-is : goal.returns-in-None-clause-is
returns-in-None-clause-is c = inr (ap (λ (n : ℕ). Some n) c.from-pin.ensures)

pub returns-in-None-clause-below : goal.returns-in-None-clause-below
returns-in-None-clause-below c = λ other h. subst (λ (b : Option ℕ). IsPinBelow b other) (sym c.in-None.is) tt

pub returns-in-None-clause-own : goal.returns-in-None-clause-own
returns-in-None-clause-own c = λ h. omega (arith, h, c.from-pin.ensures)

pub returns-in-Some-clause-is : goal.returns-in-Some-clause-is
returns-in-Some-clause-is c =
    let lesser = c.min.ensures in
    let same = c.from-pin.ensures in
    elim (cases_lt c.in-Some.least c.from-pin.result) [
      | inl low ↦
          let e : c.min.result ≡ c.in-Some.least = omega (arith, lesser, low) in
          inl (ap (λ (n : ℕ). Some n) e ∙ sym c.in-Some.is)
      | inr high ↦
          let e : c.min.result ≡ c.args.pin = omega (arith, lesser, same, high) in inr (ap (λ (n : ℕ). Some n) e)
    ]

pub returns-in-Some-clause-below : goal.returns-in-Some-clause-below
returns-in-Some-clause-below c = λ other h.
    let low : other < c.in-Some.least = omega (arith, h, c.min.ensures) in
    subst (λ (b : Option ℕ). IsPinBelow b other) (sym c.in-Some.is) low

pub returns-in-Some-clause-own : goal.returns-in-Some-clause-own
returns-in-Some-clause-own c = λ h. omega (arith, h, c.min.ensures, c.from-pin.ensures)
