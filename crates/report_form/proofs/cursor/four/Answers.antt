use Rattle.report_form.proofs.Fields.{four_ahead}
use Rattle.report_form.proofs.cursor.four.Goals as goal

pub returns-in_err-line : goal.returns-in_err-line
returns-in_err-line c = rw c.from_residual-in_err-line.ensures (λ a b d e r h. c.in_err-line.ensures b d e r
    (four_ahead c.args.word.now c.in_ok-a.a.now c.in_ok-a.behind.now a b d e r c.args.text.now c.in_ok-a.ensures h))
