use Rattle.std.proofs.Common.{IsTrue, ◌↔◌, sym, subst}
use Rattle.pcb_model.proofs.Probes.{disc_fit, step_fit, via_fit, stack_fit}
use Rattle.pcb_model.specs.declared.item.Probe.{Probe}
use Rattle.pcb_model.specs.Pairs.{ProbeAgrees}
use Rattle.pcb_model.proofs.probe.probe_agrees.Goals as goal

pub wire_ok-requires-clause-p_fit : goal.wire_ok-requires-clause-p_fit
wire_ok-requires-clause-p_fit c =
    disc_fit c.args.d.now c.args.p.now c.in-Disc.layer c.in-Disc.width c.in-Disc.at c.in-Disc.is c.requires.p_fits

pub wire_ok-requires-in-Step-clause-p_fit : goal.wire_ok-requires-in-Step-clause-p_fit
wire_ok-requires-in-Step-clause-p_fit c =
    step_fit c.args.d.now c.args.p.now c.in-Step.layer c.in-Step.width c.in-Step.a c.in-Step.end c.in-Step.is
    c.requires.p_fits

pub via_ok-requires-clause-ps_fit : goal.via_ok-requires-clause-ps_fit
via_ok-requires-clause-ps_fit c = stack_fit c.args.d.now c.in-Via.padstack c.requires.design

pub via_ok-requires-clause-moved_fit : goal.via_ok-requires-clause-moved_fit
via_ok-requires-clause-moved_fit c =
    via_fit c.args.d.now c.args.p.now c.in-Via.padstack c.in-Via.at c.in-Via.is c.requires.p_fits

pub returns-in-Disc : goal.returns-in-Disc
returns-in-Disc c =
    subst (λ (q : Probe). IsTrue c.wire_ok.result ↔ ProbeAgrees c.args.d.now c.args.net q c.args.b.now)
    (sym c.in-Disc.is) c.wire_ok.ensures

pub returns-in-Step : goal.returns-in-Step
returns-in-Step c =
    subst (λ (q : Probe). IsTrue c.wire_ok-in-Step.result ↔ ProbeAgrees c.args.d.now c.args.net q c.args.b.now)
    (sym c.in-Step.is) c.wire_ok-in-Step.ensures

pub returns-in-Via : goal.returns-in-Via
returns-in-Via c =
    subst (λ (q : Probe). IsTrue c.via_ok.result ↔ ProbeAgrees c.args.d.now c.args.net q c.args.b.now)
    (sym c.in-Via.is) c.via_ok.ensures
