use Rattle.report_form.proofs.Options.{inner_says, bare_names_say}
use Rattle.report_form.proofs.spelling.spelled_name.Goals as goal

pub returns-in-Some : goal.returns-in-Some
returns-in-Some c = inner_says c.args.text.now c.in-Some.inner.now c.quoted.result c.in-Some.ensures c.quoted.ensures

pub returns-in-None : goal.returns-in-None
returns-in-None c = bare_names_say c.args.text.now c.bare_name.result c.in-None.ensures c.bare_name.ensures
