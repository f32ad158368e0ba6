use Rattle.std.proofs.Common.{◌≡◌, ℕ, List, drop, sym, ap, ◌∙◌, subst}
use Rattle.std.proofs.lemmas.Bool.{both_ways}
use Rattle.ses_writer.specs.Words.{is_bare, is_bare_byte}
use Rattle.told_words.specs.Stops.{Stops}
use Rattle.report_form.proofs.Fields.{no_front, front_stops}
use Rattle.report_form.proofs.Spelled.{inner_one, inner_here}
use Rattle.report_form.proofs.spelling.quoted.Goals as goal

pub returns-then-is_bare : goal.returns-then-is_bare
returns-then-is_bare c = λ name r h.
    let same = inner_one c.args.inner.now name r c.inner_count.result c.inner_count.ensures h in
    both_ways (is_bare name) h.no_bare (ap is_bare (sym (c.split_at.ensures.front ∙ same.0)) ∙ sym c.is_bare.ensures
    ∙ c.if-is_bare.true)

pub returns-then-bare_count-gt0 : goal.returns-then-bare_count-gt0
returns-then-bare_count-gt0 c = λ name r h.
    let same = inner_one c.args.inner.now name r c.inner_count.result c.inner_count.ensures h in
    let rest : c.in_ok-rest.rest.now ≡ r =
    ap (λ (x : List ℕ). drop 1 x) (sym c.in_ok-rest.ensures ∙ c.split_at.ensures.back ∙ same.1) in
    no_front is_bare_byte c.bare_count.result c.in_ok-rest.rest.now c.bare_count.ensures c.if-bare_count-gt0.true
    (subst (λ (x : List ℕ). Stops is_bare_byte x) (sym rest) h.stops)

pub returns : goal.returns
returns c = inner_here c.args.inner.now c.split_at.result.0.now c.split_at.result.1.now c.in_ok-rest.rest.now
    c.inner_count.result c.inner_count.ensures c.split_at.ensures.front c.split_at.ensures.back c.in_ok-rest.ensures
    (sym c.is_bare.ensures ∙ c.if-is_bare.false)
    (front_stops is_bare_byte c.bare_count.result c.in_ok-rest.rest.now c.bare_count.ensures c.if-bare_count-gt0.false)
