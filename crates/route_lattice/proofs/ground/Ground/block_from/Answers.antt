use Rattle.std.proofs.Common.{subst}
use Rattle.std.specs.Prelude.{None}
use Rattle.pcb_model.specs.Pairs.{ProbeAgrees}
use Rattle.pcb_model.specs.Copper.{Finds}
use Rattle.route_lattice.specs.Ground.{GroundOf}
use Rattle.route_lattice.proofs.ground.Ground.block_from.Goals as goal

pub returns : goal.returns
returns g c =
    subst (λ (s : GroundOf). Finds (λ b. ProbeAgrees s.d c.args.net c.args.probe.now b → ⊥)
    (ProbeAgrees s.d c.args.net c.args.probe.now) c.args.from None s.items c.block_from.result) c.self.view_is
    c.block_from.ensures
