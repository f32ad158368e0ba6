use Rattle.report_form.proofs.Spelled.{mark_before}
use Rattle.report_form.proofs.spelling.has_mark.Goals as goal

pub returns : goal.returns
returns c = mark_before c.args.name.now c.inner_count.result c.inner_count.ensures
