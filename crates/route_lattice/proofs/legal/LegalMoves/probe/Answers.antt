use Rattle.std.proofs.Common.{Option, sym, subst}
use Rattle.std.specs.Prelude.{IfSome}
use Rattle.pcb_model.specs.declared.item.Probe.{Probe}
use Rattle.pcb_model.specs.Bounds.{IsProbeFit}
use Rattle.route_lattice.proofs.Leading.{probe_fits}
use Rattle.route_lattice.proofs.legal.LegalMoves.probe.Goals as goal

pub returns-clause-fits : goal.returns-clause-fits
returns-clause-fits g c =
    let s = c.args.self.now in
    subst (λ (o : Option Probe). IfSome o (IsProbeFit s.d.now)) (sym c.laid_by.ensures)
    (probe_fits s.d.now s.lat.now s.net c.args.node c.args.i c.requires.can_move.sound c.requires.can_move.fits
    c.requires.node)
