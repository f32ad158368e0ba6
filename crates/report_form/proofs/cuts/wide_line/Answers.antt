use Rattle.std.proofs.Common.{◌∙◌, ◌<◌, codes, length, sym, true, arith}
use Rattle.report_form.proofs.Alike.{follows, follows_not}
use Rattle.report_form.proofs.Loops.{one_shorter}
use Rattle.report_form.proofs.Parts.{wide_on, wide_stop}
use Rattle.report_form.proofs.cuts.wide_line.Goals as goal

pub returns-then-not-may_follow-clause-read : goal.returns-then-not-may_follow-clause-read
returns-then-not-may_follow-clause-read c = λ p h ns w cs k page read so first.
    wide_stop p h ns w cs k c.args.text.now read first (λ size r may has.
    follows_not ns cs c.args.told true so (sym c.may_follow.ensures ∙ c.if-not-may_follow.true) may)

pub returns-in-Some-clause-read : goal.returns-in-Some-clause-read
returns-in-Some-clause-read c = λ p h ns w cs k page read so first.
    wide_on p h ns w cs k c.in-Some.field-0-0.now c.args.text.now c.in-Some.rest.now page read
    (follows ns cs c.args.told true so (sym c.may_follow.ensures ∙ c.if-not-may_follow.false)) c.in-Some.ensures

pub returns-in-Some-clause-shorter : goal.returns-in-Some-clause-shorter
returns-in-Some-clause-shorter c =
    let gone : length c.in-Some.rest.now < length c.args.text.now =
    one_shorter (codes "wide ") c.in-Some.field-0-0.now c.in-Some.rest.now c.args.text.now c.in-Some.ensures in
    omega (arith, gone)

pub returns-in-None-clause-read : goal.returns-in-None-clause-read
returns-in-None-clause-read c = λ p h ns w cs k page read so first.
    wide_stop p h ns w cs k c.args.text.now read first (λ size r may has. c.in-None.ensures size r has)
