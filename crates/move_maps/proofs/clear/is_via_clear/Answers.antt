use Rattle.std.proofs.Common.{◌≤◌, ◌^◌, Some, sym, subst}
use Rattle.pcb_model.specs.declared.item.Kind.TheVariants as kind
use Rattle.pcb_model.proofs.Probes.{stack_fit}
use Rattle.pcb_model.proofs.Within.{clearance_within}
use Rattle.move_maps.proofs.Clearing.{via_shut, via_clear}
use Rattle.move_maps.proofs.clear.is_via_clear.Goals as goal

pub via_keeps-requires-clause-c_within : goal.via_keeps-requires-clause-c_within
via_keeps-requires-clause-c_within c = subst (λ n. n ≤ 2 ^ 28) (sym c.requires.clearance)
    (clearance_within (2 ^ 28) c.args.d.now
    (Some c.args.first) kind.Via c.args.item.now.net c.args.item.now.kind c.requires.design.rules_within)

pub returns-then-not-via_keeps : goal.returns-then-not-via_keeps
returns-then-not-via_keeps c = via_shut c.args.d.now c.args.first c.args.item.now c.args.clearance c.args.padstack
    c.args.at
    c.requires.clearance c.via_keeps.result c.via_keeps.ensures c.if-not-via_keeps.true

pub returns : goal.returns
returns c = via_clear c.args.d.now c.args.first c.args.item.now c.args.clearance c.args.padstack c.args.at
    c.requires.clearance
    (c.via_keeps.ensures.0 c.if-not-via_keeps.false) c.via_stays_off.result c.via_stays_off.ensures

pub via_keeps-requires-clause-ps_fit : goal.via_keeps-requires-clause-ps_fit
via_keeps-requires-clause-ps_fit c = stack_fit c.args.d.now c.args.padstack c.requires.design

pub via_stays_off-requires-clause-ps_fit : goal.via_stays_off-requires-clause-ps_fit
via_stays_off-requires-clause-ps_fit c = stack_fit c.args.d.now c.args.padstack c.requires.design
