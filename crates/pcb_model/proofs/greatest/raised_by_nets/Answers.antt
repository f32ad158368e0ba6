use Rattle.std.proofs.Common.{◌≤◌, arith}
use Rattle.pcb_model.specs.declared.item.Kind.{Kind}
use Rattle.pcb_model.specs.Rules.{pair_value}
use Rattle.pcb_model.proofs.Clearances.{by_kinds}
use Rattle.pcb_model.proofs.greatest.raised_by_nets.Goals as goal

pub returns-clause-values : goal.returns-clause-values
returns-clause-values c =
    let wire = c.raised_between_kind-wire.ensures in
    let via = c.raised_between_kind-via.ensures in
    let pin = c.raised_between_kind-pin.ensures in
    let smd = c.raised_between_kind-smd.ensures in
    let area = c.raised_between_kind.ensures in
    λ one other.
    by_kinds (λ (kind : Kind). pair_value c.args.d.now c.args.p.now kind other ≤ c.raised_between_kind.result)
    (omega (arith, wire.values other, via.least, pin.least, smd.least, area.least))
    (omega (arith, via.values other, pin.least, smd.least, area.least))
    (omega (arith, pin.values other, smd.least, area.least)) (omega (arith, smd.values other, area.least))
    (area.values other) one
