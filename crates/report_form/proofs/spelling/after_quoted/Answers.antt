use Rattle.report_form.proofs.Options.{quoted_says}
use Rattle.report_form.proofs.spelling.after_quoted.Goals as goal

pub returns : goal.returns
returns c = quoted_says c.args.text.now c.in_ok-inner.inner.now c.in_ok-behind.behind.now c.args.name.now
    c.after-3.result c.in_ok-inner.ensures c.in_ok-behind.ensures c.after-3.ensures
