use Rattle.std.proofs.Common.{Some, sym, ◌∙◌}
use Rattle.report_form.proofs.Options.{same_iff}
use Rattle.report_form.proofs.Spelled.{marked_pin, free_pin}
use Rattle.report_form.proofs.spelling.name_beside.Goals as goal

pub returns-then-has_mark : goal.returns-then-has_mark
returns-then-has_mark c = marked_pin c.args.first.now c.in_ok-rest.rest.now c.args.text.now
    (sym c.has_mark.ensures ∙ c.if-has_mark.true) c.in_ok-rest.ensures

pub returns : goal.returns
returns c = free_pin (Some c.args.first.now) c.eq-named.result c.in_ok-name.name.now c.in_ok-name.rest.now
    c.args.text.now (sym c.has_mark.ensures ∙ c.if-has_mark.false) c.in_ok-name.ensures
    (same_iff c.in_ok-name.name.now c.args.first.now c.eq-named.result c.eq-named.ensures)
