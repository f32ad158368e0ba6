use Rattle.std.proofs.Common.{arith}
use Rattle.report_form.proofs.Steps.{no_pass_stop, kept_on, kept_stop}
use Rattle.report_form.proofs.passes.after_kept.Goals as goal

pub returns-then-count-eq0 : goal.returns-then-count-eq0
returns-then-count-eq0 c = λ p h page at. no_pass_stop p h c.after_passes-count.result.count
    c.after_passes-count.result.rest.now
    (c.after_passes-count.ensures p h page at) c.if-count-eq0.true

pub returns-in-Some : goal.returns-in-Some
returns-in-Some c = λ p h page at. kept_on p h c.after_passes-count.result.count c.in-Some.field-0-0.now
    c.after_passes-count.result.rest.now c.in-Some.next.now page (c.after_passes-count.ensures p h page at)
    (omega (arith, c.if-count-eq0.false)) c.in-Some.ensures

pub returns-in-None : goal.returns-in-None
returns-in-None c = λ p h page at. kept_stop p h c.after_passes-count.result.count c.after_passes-count.result.rest.now
    (c.after_passes-count.ensures p h page at) c.in-None.ensures
