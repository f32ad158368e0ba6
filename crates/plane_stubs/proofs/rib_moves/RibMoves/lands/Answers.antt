use Rattle.std.proofs.Common.{sym, subst, Bool, Option}
use Rattle.std.specs.Prelude.{◌↔◌, IfOk, IsTrue}
use Rattle.pcb_model.specs.declared.item.Probe.{Probe}
use Rattle.route_lattice.specs.Fits.{FitsDesign}
use Rattle.plane_joins.specs.Stubs.{Touches}
use Rattle.plane_stubs.specs.inner.Landings.{NetRibs}
use Rattle.plane_stubs.proofs.Touching.{near_via}
use Rattle.plane_stubs.proofs.rib_moves.RibMoves.lands.Goals as goal

pub probe_lands-requires-clause-via : goal.probe_lands-requires-clause-via
probe_lands-requires-clause-via c =
    let n = c.args.self.now in
    near_via n.on n.net c.args.node c.args.i c.requires.via
    (subst (λ (m : NetRibs). FitsDesign m.on.d m.on.lat) c.self.view_is c.self.invariant.0.fits) c.requires.node
    c.in-Some.p (sym c.in-Some.ensures.value)

pub returns-in-Some : goal.returns-in-Some
returns-in-Some c =
    let n = c.args.self.now in
    subst (λ (o : Option Probe). IfOk c.probe_lands.result (λ (b : Bool). IsTrue b ↔ Touches n.on n.net o))
    c.in-Some.ensures.value c.probe_lands.ensures
