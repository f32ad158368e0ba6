use Rattle.std.proofs.Common.{◌<◌, ◌≤◌, ℕ, List, Option, length, sym, subst, arith}
use Rattle.std.specs.Option.{option_copied}
use Rattle.std.proofs.lemmas.Result.{IfOk-weaker}
use Rattle.report_form.specs.inner.Fields.{HasCut}
use Rattle.report_form.proofs.Parts.{cut_stop}
use Rattle.report_form.proofs.Loops.{cut_says, cut_shorter}
use Rattle.report_form.proofs.cuts.read_most.Goals as goal

pub returns-in-Some-clause-read : goal.returns-in-Some-clause-read
returns-in-Some-clause-read c = λ p h ns w cs page before less e.
    cut_says p h ns w cs (option_copied c.args.first) c.in-Some.line c.args.text.now c.read_parts.result page before
    less e c.in-Some.ensures (λ k at early. c.read_parts.ensures.read p h ns w cs k page at early)

pub returns-in-Some-clause-shorter : goal.returns-in-Some-clause-shorter
returns-in-Some-clause-shorter c =
    let line = c.in-Some.line in
    let gone = cut_shorter (option_copied c.args.first) line.named line.reached line.blocked line.rest.now
    c.args.text.now c.in-Some.ensures in
    IfOk-weaker c.read_parts.result (λ x. length x.rest.now ≤ length line.rest.now)
    (λ x. length x.rest.now < length c.args.text.now) (λ x less. omega (arith, less, gone)) c.read_parts.ensures.shorter

pub returns-in-None-clause-read : goal.returns-in-None-clause-read
returns-in-None-clause-read c = λ p h ns w cs page before less e.
    cut_stop p h ns w cs c.args.text.now before (λ pin a b r has. c.in-None.ensures pin a b r
    (subst (λ (f : Option (List ℕ)). HasCut f pin a b r c.args.text.now) (sym e) has))
