use Rattle.std.proofs.Common.{sym, ◌∙◌}
use Rattle.report_form.proofs.Spelled.{bare_whole}
use Rattle.report_form.proofs.spelling.is_bare.Goals as goal

pub returns-then-not-is_empty : goal.returns-then-not-is_empty
returns-then-not-is_empty c = bare_whole c.args.name.now c.bare_count.result c.bare_count.ensures
    (sym c.is_empty.ensures ∙ c.if-not-is_empty.true)
