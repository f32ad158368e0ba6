use Rattle.std.proofs.Common.{◌∙◌, subst, sym}
use Rattle.pcb_model.specs.Sound.{IsSound}
use Rattle.session_start.proofs.start.with_session.Goals as goal

pub returns-in-Ok-clause-sound : goal.returns-in-Ok-clause-sound
returns-in-Ok-clause-sound c = subst IsSound (sym (c.with_wires.ensures ∙ c.in-Ok.ensures))
    (c.other_wiring_keeps.ensures.started c.args.d c.args.old.now c.requires.sound c.requires.items)
