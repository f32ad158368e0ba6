use Rattle.std.proofs.lemmas.Bool.{both_ways}
use Rattle.report_form.proofs.Parts.{blockers_stop, blockers_read}
use Rattle.report_form.proofs.cuts.after_blockers.Goals as goal

pub returns-then-begins_with-clause-read : goal.returns-then-begins_with-clause-read
returns-then-begins_with-clause-read c = λ p h ns w cs k page at early.
    blockers_stop p h ns w cs k c.after_outside-left.result.now (c.after_outside-left.ensures.read p h ns w cs k page
    (c.after_items.ensures.read p h ns w cs k page at early)) (c.begins_with.ensures.0 c.if-begins_with.true)

pub returns-else-begins_with-clause-read : goal.returns-else-begins_with-clause-read
returns-else-begins_with-clause-read c = λ p h ns w cs k page at early.
    blockers_read p h ns w cs k c.after_outside-left.result.now (c.after_outside-left.ensures.read p h ns w cs k page
    (c.after_items.ensures.read p h ns w cs k page at early))
    (λ h. both_ways c.begins_with.result c.if-begins_with.false (c.begins_with.ensures.1 h))
