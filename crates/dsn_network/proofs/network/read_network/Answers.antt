use Rattle.std.proofs.Common.{◌∙◌, subst, sym}
use Rattle.dsn_network.specs.Sound.{IsNetworkSound}
use Rattle.dsn_network.proofs.Sound.{network_sound}
use Rattle.dsn_network.proofs.network.read_network.Goals as goal

pub returns-in-None-clause-sound : goal.returns-in-None-clause-sound
returns-in-None-clause-sound c =
    λ few. subst (IsNetworkSound c.args.lib.now c.args.placing.now) (sym c.in-Ok.ensures.value)
    (network_sound c.args.s.nm c.args.lib.now c.args.placing.now c.args.pcb.now few
    (sym c.in-Ok.ensures.noted ∙ c.in-None.is))
