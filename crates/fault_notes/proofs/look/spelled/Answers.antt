use Rattle.std.proofs.Common.{◌≡◌, ◌∙◌, ◌++◌, ap, get_or, rules, Some}
use Rattle.std.proofs.lemmas.Bool.Decides.{Decides-eqb}
use Rattle.std.proofs.lemmas.Slice.Eq.{strip_prefix_is}
use Rattle.route_words.specs.Parts.{Word}
use Rattle.fault_notes.specs.Words.{name_of}
use Rattle.fault_notes.proofs.Spelled.{valued_so}
use Rattle.fault_notes.proofs.look.spelled.Goals as goal

pub returns-in-61 : goal.returns-in-61
returns-in-61 c =
    let first : get_or c.in-Some.rest.now 0 0 ≡ 61 = search rules in
    let whole : c.args.word.now ≡ c.as_bytes.result.now ++ c.in-Some.rest.now =
    strip_prefix_is Decides-eqb c.args.word.now c.as_bytes.result.now (Some c.in-Some.rest) c.in-Some.ensures.cases in
    valued_so c.args.choice c.args.word.now c.in-Some.rest.now
    (whole ∙ ap (λ (name : Word). name ++ c.in-Some.rest.now) (c.as_bytes.ensures.value ∙ c.name.ensures))
    c.in-61.len_at_least first
