use Rattle.std.proofs.Common.{arith, sym, ◌∙◌, inl, inr}
use Rattle.dsn_units.proofs.Limits.{whole_far, whole_value, whole_past}
use Rattle.dsn_units.proofs.count.whole_number.Goals as goal
use Rattle.dsn_units.proofs.count.whole_number.Goals.{then-is_odd-via-then-is_odd}
use Rattle.dsn_units.proofs.count.whole_number.Goals.{then-is_odd-via-else-is_odd+then-number-from}

pub returns-in_default : goal.returns-in_default
returns-in_default c = sym (whole_far c.args.d.now c.args.most (omega arith) c.in_default.ensures)

pub returns-then-is_odd : goal.returns-then-is_odd
returns-then-is_odd c = sym (whole_past c.args.d.now c.args.most _ _ c.in-Some.ensures (elim c.then-is_odd.branch [
  | then-is_odd-via-then-is_odd w ↦ inl (sym c.is_odd.ensures ∙ w.if-is_odd.true)
  | then-is_odd-via-else-is_odd+then-number-from w ↦ inr (omega arith)
]))

pub returns : goal.returns
returns c = sym
    (whole_value c.args.d.now c.args.most _ _ (sym c.is_below_zero.ensures ∙ c.if-is_below_zero.false) c.in-Some.ensures
    (sym c.is_odd.ensures ∙ c.if-is_odd.false) (omega arith))
