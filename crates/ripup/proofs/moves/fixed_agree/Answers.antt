use Rattle.std.proofs.Common.{◌≤◌, ◌<◌, ℕ, IsTrue, ◌↔◌, inl, inr, arith, refl, rules}
use Rattle.std.specs.Prelude.{nat_le}
use Rattle.ripup.proofs.Passing.{low_or_high}
use Rattle.ripup.proofs.Charging.{all_agree, first_high, first_low}
use Rattle.ripup.proofs.moves.fixed_agree.Goals as goal

-- what a test of an order says
told : (m n : ℕ) (P : Type 0) → (m ≤ n → P) → (n < m → P → ⊥) → IsTrue (nat_le m n) ↔ P
told m n P yes_if no_if = (
  λ t. yes_if (search (rules, t)),
  λ p. elim (low_or_high (λ (x : ℕ). x) n m) [
    | inl h ↦ absurd (no_if h p)
    | inr h ↦ search (rules, h)
  ],
)

pub returns-in-None : goal.returns-in-None
returns-in-None g c =
    let d = c.args.on.now.d in
    let items = c.args.on.now.items in
    let serves = c.keeps.ensures.serves in (
      λ t. all_agree d items c.args.net c.args.probe.now c.keeps.ensures.sound serves c.in_order.ensures.ascends
          c.in-None.ensures,
      λ all. refl,
    )

pub returns-in-Some : goal.returns-in-Some
returns-in-Some g c =
    let d = c.args.on.now.d in
    let items = c.args.on.now.items in
    let serves = c.keeps.ensures.serves in
    told c.fixed_count.result c.in-Some.id _
    (λ high. first_high d items c.args.net c.args.probe.now c.keeps.ensures.sound serves c.in_order.ensures.ascends
    c.in-Some.id
    c.in-Some.ensures (omega (arith, high, c.fixed_count.ensures)))
    (λ low. first_low d items c.args.net c.args.probe.now c.keeps.ensures.sound serves c.in_order.ensures.ascends
    c.in-Some.id
    c.in-Some.ensures (omega (arith, low, c.fixed_count.ensures)))
