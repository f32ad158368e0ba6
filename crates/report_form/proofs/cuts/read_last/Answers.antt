use Rattle.std.proofs.Common.{◌∙◌, sym, false}
use Rattle.std.proofs.lemmas.Bool.{both_ways}
use Rattle.report_form.proofs.Alike.{follows, follows_not}
use Rattle.report_form.proofs.Parts.{plain_on, plain_stop}
use Rattle.report_form.proofs.cuts.read_last.Goals as goal

pub returns-then-begins_with-clause-read : goal.returns-then-begins_with-clause-read
returns-then-begins_with-clause-read c = λ p h ns w cs k page read so.
    c.wide_line.ensures.read p h ns w cs k page read so (c.begins_with.ensures.0 c.if-begins_with.true)

pub returns-then-may_follow-clause-read : goal.returns-then-may_follow-clause-read
returns-then-may_follow-clause-read c = λ p h ns w cs k page read so.
    plain_on p h ns w cs k c.args.text.now read
    (follows ns cs c.args.told false so (sym c.may_follow.ensures ∙ c.if-may_follow.true))
    (λ head. both_ways c.begins_with.result c.if-begins_with.false (c.begins_with.ensures.1 head))

pub returns-else-may_follow-clause-read : goal.returns-else-may_follow-clause-read
returns-else-may_follow-clause-read c = λ p h ns w cs k page read so.
    plain_stop p h ns w cs k c.args.text.now read
    (follows_not ns cs c.args.told false so (sym c.may_follow.ensures ∙ c.if-may_follow.false))
    (λ head. both_ways c.begins_with.result c.if-begins_with.false (c.begins_with.ensures.1 head))
