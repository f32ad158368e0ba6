use Rattle.report_form.proofs.Options.{after_says}
use Rattle.report_form.proofs.cursor.after.Goals as goal

pub returns : goal.returns
returns c = after_says c.args.text.now c.args.word.now c.strip_prefix.result c.strip_prefix.ensures.cases
