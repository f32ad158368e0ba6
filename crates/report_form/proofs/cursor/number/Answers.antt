use Rattle.report_form.proofs.Fields.{number_empty, number_zero}
use Rattle.report_form.proofs.cursor.number.Goals as goal

pub returns-then-count-eq0 : goal.returns-then-count-eq0
returns-then-count-eq0 c = λ w r h.
    number_empty c.args.text.now w r c.digit_count-count.result c.digit_count-count.ensures c.if-count-eq0.true h

pub returns-then-leads_with_zero : goal.returns-then-leads_with_zero
returns-then-leads_with_zero c = λ w r h.
    let zero = c.leads_with_zero.ensures.0 c.if-leads_with_zero.true in
    number_zero c.args.text.now w r c.digit_count-count.result c.digit_count-count.ensures zero.0 zero.1 h
