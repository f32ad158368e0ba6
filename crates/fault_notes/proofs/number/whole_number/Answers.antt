use Rattle.std.proofs.Common.{◌≡◌, ℕ, ◌<◌, ◌^◌, List, Result, Ok, sym, ◌∙◌, ap, subst}
use Rattle.std.specs.Fmt.{decimal}
use Rattle.std.specs.Str.{IsUtf8}
use Rattle.std.specs.Str.Parse.{ParsesUnsigned}
use Rattle.std.proofs.lemmas.Bool.Decides.{Decides-eqb}
use Rattle.std.proofs.lemmas.Fmt.{parse-decimal_wide}
use Rattle.std.proofs.lemmas.Slice.Eq.{slice_eq-Decides}
use Rattle.fault_notes.proofs.Digits.{fits_wide, decimal_is_text}
use Rattle.fault_notes.proofs.number.whole_number.Goals as goal

-- a number's text is read as that number
parsed : {E : Type 0} (n : ℕ) (text digits : List ℕ) (r : Result ℕ E) → n < 2 ^ 128 → text ≡ digits
    → digits ≡ decimal n → ParsesUnsigned 128 10 text r → r ≡ Ok n
parsed n text digits r small same is parses =
    parse-decimal_wide 128 n text r small (fits_wide n small) (same ∙ is) parses

pub returns-in_default-clause-whole : goal.returns-in_default-clause-whole
returns-in_default-clause-whole c = λ n small is.
    c.in_default.ensures.cases.0 (subst IsUtf8 (sym is) (decimal_is_text n small))

pub returns-in_default-parse-clause-whole : goal.returns-in_default-parse-clause-whole
returns-in_default-parse-clause-whole c = λ n small is.
    let read = parsed n c.in-Ok.text.now c.args.digits.now c.parse.result small c.in-Ok.ensures.cases.0 is
    c.parse.ensures.value.0 in
    cc

pub returns-then-eq-clause-whole : goal.returns-then-eq-clause-whole
returns-then-eq-clause-whole c = λ n small is.
    let read = parsed n c.in-Ok.text.now c.args.digits.now c.parse.result small c.in-Ok.ensures.cases.0 is
    c.parse.ensures.value.0 in
    cc

pub returns-else-eq-clause-whole : goal.returns-else-eq-clause-whole
returns-else-eq-clause-whole c = λ n small is.
    let read = parsed n c.in-Ok.text.now c.args.digits.now c.parse.result small c.in-Ok.ensures.cases.0 is
    c.parse.ensures.value.0 in
    let number_is : c.in-Ok-parse.number ≡ n = cc in
    let same : c.as_bytes.result.now ≡ c.args.digits.now =
    c.as_bytes.ensures.value ∙ c.format.ensures.text ∙ ap decimal number_is ∙ sym is in
    let equal =
    (slice_eq-Decides Decides-eqb c.as_bytes.result.now c.args.digits.now c.eq.result c.eq.ensures).1 same in
    cc
