use Rattle.std.proofs.Common.{Some, subst}
use Rattle.pcb_model.specs.declared.item.Kind.{Kind}
use Rattle.pcb_model.specs.Near.{IsSideOf}
use Rattle.pcb_model.proofs.near.Query.of_probe.Goals as goal

pub returns : goal.returns
returns c =
    let net = Some c.args.net in
    record {
      side_is = subst (λ (k : Kind). IsSideOf c.args.d.now net k c.new.result) c.probe_kind.ensures c.new.ensures;
      extent_is = c.of_probe.ensures.has;
      reach_within = c.reach_of.ensures.within;
      reach_is = c.reach_of.ensures.reaches;
    }
