use Rattle.std.proofs.Common.{◌∙◌, subst, sym}
use Rattle.dsn_wiring.specs.Sound.{IsWiringSound}
use Rattle.dsn_wiring.proofs.Sound.{wiring_sound}
use Rattle.dsn_wiring.proofs.wiring.read_wiring.Goals as goal

pub returns-in-None-clause-sound : goal.returns-in-None-clause-sound
returns-in-None-clause-sound c few =
    subst (IsWiringSound c.args.st.now c.args.lib.now c.args.net.now) (sym c.in-Ok.ensures.value)
    (wiring_sound c.args.s.nm c.args.st.now c.args.lib.now c.args.placing.now c.args.net.now c.args.pcb.now few
    (sym c.in-Ok.ensures.noted ∙ c.in-None.is))
