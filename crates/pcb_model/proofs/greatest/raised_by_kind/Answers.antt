use Rattle.std.proofs.Common.{◌≤◌, arith}
use Rattle.pcb_model.specs.declared.item.Kind.{Kind}
use Rattle.pcb_model.specs.Rules.{value_of}
use Rattle.pcb_model.proofs.Clearances.{by_kinds}
use Rattle.pcb_model.proofs.greatest.raised_by_kind.Goals as goal

pub returns-clause-values : goal.returns-clause-values
returns-clause-values c =
    let wire = c.raised-wire.ensures in
    let via = c.raised-via.ensures in
    let pin = c.raised-pin.ensures in
    let smd = c.raised-smd.ensures in
    let area = c.raised.ensures in
    by_kinds (λ (other : Kind). value_of c.args.d.now c.args.net c.args.kind other ≤ c.raised.result)
    (omega (arith, wire.value, via.least, pin.least, smd.least, area.least))
    (omega (arith, via.value, pin.least, smd.least, area.least))
    (omega (arith, pin.value, smd.least, area.least)) (omega (arith, smd.value, area.least)) area.value
