use Rattle.std.proofs.Common.{subst}
use Rattle.pcb_model.specs.Sound.{Serves}
use Rattle.ripup.specs.inner.Served.{ServedOf}
use Rattle.ripup.proofs.in_way.Served.keeps.Goals as goal

pub returns-clause-serves : goal.returns-clause-serves
returns-clause-serves g c =
    subst (λ (s : ServedOf). Serves s.items s.d) c.self.view_is
    (g.met.C.Copper.serving _ _ c.self.invariant.serves)
