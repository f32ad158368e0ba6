use Rattle.std.proofs.Common.{ℤ, Bool, true, false, sym, subst, w64}
use Rattle.std.proofs.lemmas.Int.{to_z-of_z}
use Rattle.shove.specs.inner.Steps.{FindsLine}
use Rattle.shove.proofs.line.Lines.next_line.Goals as goal

pub returns-then-up : goal.returns-then-up
returns-then-up c =
    let e = to_z-of_z w64 c.args.at c.ranges.at in
    subst (λ (up : Bool). FindsLine up c.args.self.now c.args.at c.next_above.result) (sym c.if-up.true)
    (subst (λ (z : ℤ). FindsLine true c.args.self.now z c.next_above.result) e c.next_above.ensures)

pub returns-else-up : goal.returns-else-up
returns-else-up c =
    let e = to_z-of_z w64 c.args.at c.ranges.at in
    subst (λ (up : Bool). FindsLine up c.args.self.now c.args.at c.next_below.result) (sym c.if-up.false)
    (subst (λ (z : ℤ). FindsLine false c.args.self.now z c.next_below.result) e c.next_below.ensures)
