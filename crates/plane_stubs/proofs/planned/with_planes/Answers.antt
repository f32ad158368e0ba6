use Rattle.std.proofs.Common.{sym, subst}
use Rattle.pcb_model.specs.declared.design.Design.{Design}
use Rattle.pcb_model.specs.Sound.{IsSound}
use Rattle.plane_joins.specs.Planned.{IsPlaned}
use Rattle.plane_stubs.proofs.planned.with_planes.Goals as goal

pub returns-in_ok-with_more-in-Ok-clause-planed : goal.returns-in_ok-with_more-in-Ok-clause-planed
returns-in_ok-with_more-in-Ok-clause-planed c = (
  subst (λ (e : Design). IsPlaned c.args.d c.args.lat.now c.args.planes.now c.args.via_cost e)
      (sym c.in_ok-with_more-in-Ok.ensures) c.in-Ok.ensures.0,
  c.in-Ok.ensures.2,
)

pub returns-in_ok-with_more-in-Ok-clause-sound : goal.returns-in_ok-with_more-in-Ok-clause-sound
returns-in_ok-with_more-in-Ok-clause-sound c =
    subst IsSound (sym c.in_ok-with_more-in-Ok.ensures)
    (c.further_items_serve.ensures.sound c.args.d c.in-Ok.more c.requires.sound c.in-Ok.ensures.1)
