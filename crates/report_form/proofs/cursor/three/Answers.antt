use Rattle.report_form.proofs.Fields.{three_ahead}
use Rattle.report_form.proofs.cursor.three.Goals as goal

pub returns-in_err-line : goal.returns-in_err-line
returns-in_err-line c = rw c.from_residual-in_err-line.ensures (λ a b d r h. c.in_err-line.ensures b d r
    (three_ahead c.args.u.now c.args.v.now c.args.w.now c.in_ok-a.a.now c.in_ok-a.behind.now a b d r c.args.text.now
    c.requires.first_stop c.in_ok-a.ensures h))
