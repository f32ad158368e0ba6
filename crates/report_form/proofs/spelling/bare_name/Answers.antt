use Rattle.report_form.proofs.Spelled.{no_bare}
use Rattle.report_form.proofs.spelling.bare_name.Goals as goal

pub returns-then-count-eq0 : goal.returns-then-count-eq0
returns-then-count-eq0 c = λ name r h.
    no_bare c.args.text.now name r c.bare_count-count.result c.bare_count-count.ensures c.if-count-eq0.true h
