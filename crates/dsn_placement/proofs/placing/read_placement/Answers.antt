use Rattle.std.proofs.Common.{◌∙◌, subst, sym}
use Rattle.dsn_placement.specs.Sound.{IsPlacingSound}
use Rattle.dsn_placement.proofs.Sound.{placing_sound}
use Rattle.dsn_placement.proofs.placing.read_placement.Goals as goal

pub returns-in-None-clause-sound : goal.returns-in-None-clause-sound
returns-in-None-clause-sound c =
    λ few. subst (IsPlacingSound c.args.st.now c.args.lib.now) (sym c.in-Ok.ensures.value)
    (placing_sound c.args.s.nm c.args.st.now c.args.lib.now c.args.pcb.now few
    (sym c.in-Ok.ensures.noted ∙ c.in-None.is))
