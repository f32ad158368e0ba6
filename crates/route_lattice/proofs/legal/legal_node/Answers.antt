use Rattle.std.proofs.Common.{ℕ, sym, subst}
use Rattle.geo_kernel.specs.declared.point.Point.{Point}
use Rattle.pcb_model.specs.declared.item.Probe.TheVariants.{Disc}
use Rattle.pcb_model.specs.Bounds.{IsProbeFit}
use Rattle.route_lattice.proofs.Leading.{disc_fits}
use Rattle.route_lattice.proofs.legal.legal_node.Goals as goal

pub is_legal-requires-clause-p_fits : goal.is_legal-requires-clause-p_fits
is_legal-requires-clause-p_fits g c =
    subst (λ (t : ℕ × ℕ × Point). IsProbeFit c.args.d.now (Disc t.0 t.1 t.2))
    (λ i. (sym c.layer.ensures i, sym c.width_of.ensures i, sym c.point.ensures i))
    (disc_fits c.args.d.now c.args.lat.now c.args.net c.args.node c.requires.sound c.requires.fits c.requires.node)
