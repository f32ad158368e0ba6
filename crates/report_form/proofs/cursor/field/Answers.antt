use Rattle.report_form.proofs.Options.{field_says}
use Rattle.report_form.proofs.cursor.field.Goals as goal

pub returns : goal.returns
returns c = field_says c.args.text.now c.args.word.now c.in_ok-behind.behind.now c.number.result c.in_ok-behind.ensures
    c.number.ensures
