use Rattle.std.proofs.Common.{List, refl, ◌∙◌}
use Rattle.std.proofs.lemmas.Result.{on_ok_weaker}
use Rattle.pcb_model.specs.declared.design.Component.{Component}
use Rattle.ses_writer.specs.Session.{places_after}
use Rattle.ses_writer.proofs.Puts.{with_next, at_end, leads_on, then_put}
use Rattle.ses_writer.proofs.placement.put_places_after.Goals as goal

pub loop-c-init : goal.loop-c-init
loop-c-init c = record { is = refl }

pub loop-c-preserved : goal.loop-c-preserved
loop-c-preserved c =
    let left = with_next (λ (cs : List Component). places_after c.args.nm c.loop-c.before.now cs) c.args.others.now
    c.loop-c.c-index c.c-item.result c.loop-c-test.true c.c-item.is c.loop-c.invariant in
    leads_on left (then_put c.in_ok-put_image_change.ensures c.in_ok-put_place.ensures)

pub returns : goal.returns
returns c =
    let left = at_end (λ (cs : List Component). places_after c.args.nm c.loop-c.before.now cs) c.args.others.now
    c.loop-c.c-index c.loop-c-test.false c.loop-c.invariant in
    on_ok_weaker c.put.result (λ last. record { is = last.is ∙ left.is }) c.put.ensures
