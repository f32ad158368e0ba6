use Rattle.std.proofs.Common.{◌∙◌, subst, sym}
use Rattle.dsn_structure.specs.Sound.{IsHeadSound}
use Rattle.dsn_structure.proofs.Sound.{head_sound}
use Rattle.dsn_structure.proofs.header.read_head.Goals as goal

pub returns-in-None-clause-sound : goal.returns-in-None-clause-sound
returns-in-None-clause-sound c =
    subst IsHeadSound (sym c.in-Ok.ensures.value) (head_sound c.args.pcb.now (sym c.in-Ok.ensures.noted ∙ c.in-None.is))
