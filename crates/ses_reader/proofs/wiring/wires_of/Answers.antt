use Rattle.std.proofs.Common.{◌∙◌, ap}
use Rattle.pcb_model.specs.declared.item.Metal.{Metal}
use Rattle.pcb_model.specs.declared.design.FreeWire.{FreeWire}
use Rattle.ses_reader.specs.declared.item.SesItem.{SesItem}
use Rattle.dsn_shapes.proofs.Looped.{mapped_more}
use Rattle.ses_reader.specs.Wiring.{wire_of}
use Rattle.ses_reader.proofs.wiring.wires_of.Goals as goal

abbrev made : SesItem → Metal → FreeWire
made x metal = record { at = x.at; net = x.net; metal = metal }

pub loop-item-preserved : goal.loop-item-preserved
loop-item-preserved c =
    c.in_ok-push.ensures.ok
    ∙ mapped_more wire_of c.args.items.now c.loop-item.item-index c.item-item.result c.loop-item.wires
    (made c.item-item.result c.in_ok-metal.metal) c.loop-item-test.true c.item-item.is c.loop-item.invariant
    (ap (made c.item-item.result) c.in_ok-metal.ensures)
