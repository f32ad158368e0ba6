use Rattle.std.proofs.Common.{◌∙◌, subst, sym}
use Rattle.dsn_structure.specs.Sound.{IsStructureSound}
use Rattle.dsn_structure.proofs.Sound.{structure_sound}
use Rattle.dsn_structure.proofs.layout.read_structure.Goals as goal

pub returns-in-None-clause-sound : goal.returns-in-None-clause-sound
returns-in-None-clause-sound c =
    subst IsStructureSound (sym c.in-Ok.ensures.value)
    (structure_sound c.args.s.nm c.args.pcb.now (sym c.in-Ok.ensures.noted ∙ c.in-None.is))
