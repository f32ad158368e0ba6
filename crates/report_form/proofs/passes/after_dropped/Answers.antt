use Rattle.report_form.specs.inner.State.{IsStopped}
use Rattle.report_form.specs.inner.Halts.{PlacesRead, DroppedRead}
use Rattle.report_form.proofs.Steps.{dropped_on, dropped_stop}
use Rattle.report_form.proofs.Options.{match_both}
use Rattle.report_form.proofs.passes.after_dropped.Goals as goal

pub returns-in-Some : goal.returns-in-Some
returns-in-Some c = λ p h page at.
    let w = c.in-Some.dropped.now in
    let g = record h { dropped = w } in
    match_both c.after_places.result (λ r. PlacesRead p g r.now) (λ r. DroppedRead p r.now) (λ r. IsStopped p r.now)
    (λ r read. record { told = g; read = read })
    (c.after_places.ensures p g page (dropped_on p h w c.args.text.now c.in-Some.behind.now page at c.in-Some.ensures)
    c.capped.ensures)

pub returns-in-None : goal.returns-in-None
returns-in-None c = λ p h page at. dropped_stop p h c.args.text.now at c.in-None.ensures
