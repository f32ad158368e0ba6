use Rattle.report_form.proofs.Fields.{two_ahead}
use Rattle.report_form.proofs.cursor.two.Goals as goal

pub returns-in_err-b : goal.returns-in_err-b
returns-in_err-b c = rw c.from_residual-in_err-b.ensures (λ a b r h. c.in_err-b.ensures b r
    (two_ahead c.args.v.now c.args.w.now c.in_ok-a.a.now c.in_ok-a.behind.now a b r c.args.text.now c.requires.stop
    c.in_ok-a.ensures h))
