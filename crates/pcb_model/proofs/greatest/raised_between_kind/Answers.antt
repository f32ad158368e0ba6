use Rattle.std.proofs.Common.{◌≤◌, arith}
use Rattle.pcb_model.specs.declared.item.Kind.{Kind}
use Rattle.pcb_model.specs.Rules.{pair_value}
use Rattle.pcb_model.proofs.Clearances.{by_kinds}
use Rattle.pcb_model.proofs.greatest.raised_between_kind.Goals as goal

pub returns-clause-values : goal.returns-clause-values
returns-clause-values c =
    let wire = c.raised_between-wire.ensures in
    let via = c.raised_between-via.ensures in
    let pin = c.raised_between-pin.ensures in
    let smd = c.raised_between-smd.ensures in
    let area = c.raised_between.ensures in
    by_kinds (λ (other : Kind). pair_value c.args.d.now c.args.p.now c.args.kind other ≤ c.raised_between.result)
    (omega (arith, wire.value, via.least, pin.least, smd.least, area.least))
    (omega (arith, via.value, pin.least, smd.least, area.least))
    (omega (arith, pin.value, smd.least, area.least)) (omega (arith, smd.value, area.least)) area.value
