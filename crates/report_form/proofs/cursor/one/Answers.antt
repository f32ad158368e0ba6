use Rattle.report_form.proofs.Fields.{one_ahead}
use Rattle.report_form.proofs.cursor.one.Goals as goal

pub returns-in_err-rest : goal.returns-in_err-rest
returns-in_err-rest c = rw c.from_residual-in_err-rest.ensures (λ w r h. c.in_err-rest.ensures r
    (one_ahead c.args.word.now c.in_ok-digits.digits.now c.in_ok-digits.behind.now w r c.args.text.now
    c.in_ok-digits.ensures h))
