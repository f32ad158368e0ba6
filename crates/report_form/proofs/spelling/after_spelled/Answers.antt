use Rattle.std.proofs.Common.{sym, ◌∙◌}
use Rattle.report_form.proofs.Options.{bare_says, quotes_say}
use Rattle.report_form.proofs.spelling.after_spelled.Goals as goal

pub returns-then-is_bare : goal.returns-then-is_bare
returns-then-is_bare c = bare_says c.args.text.now c.args.name.now c.after.result
    (sym c.is_bare.ensures ∙ c.if-is_bare.true) c.after.ensures

pub returns : goal.returns
returns c = quotes_say c.args.text.now c.args.name.now c.after_quoted.result
    (sym c.is_bare.ensures ∙ c.if-is_bare.false) c.after_quoted.ensures
