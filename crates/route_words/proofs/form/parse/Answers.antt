use Rattle.route_words.proofs.Forming.{form_makes, form_reads, read_without_memory}
use Rattle.route_words.proofs.form.parse.Goals as goal

pub returns : goal.returns
returns c = λ app made plain.
    let is = form_makes _ _ c.in_ok-form.form c.bare_form.ensures c.in_ok-form.ensures app made in
    form_reads app _ is plain _ c.try_get_matches_from.result c.try_get_matches_from.ensures.matches
    c.try_get_matches_from.ensures.kinds

pub returns-in_err-form : goal.returns-in_err-form
returns-in_err-form c = λ app made plain. read_without_memory app _ c.from_residual.result c.from_residual.ensures.1
