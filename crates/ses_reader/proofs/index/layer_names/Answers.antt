use Rattle.std.proofs.Common.{ap, arith}
use Rattle.pcb_model.specs.declared.design.BoardLayer.{BoardLayer}
use Rattle.dsn_shapes.specs.Lists.{heads_of}
use Rattle.ses_reader.proofs.Naming.{named_all, named_more}
use Rattle.ses_reader.proofs.index.layer_names.Goals as goal

pub loop-layer-init : goal.loop-layer-init
loop-layer-init c = ap heads_of c.new-names.ensures.items

pub loop-layer-preserved : goal.loop-layer-preserved
loop-layer-preserved c =
    named_more (λ (l : BoardLayer). l.name) c.args.layers.now c.loop-layer.layer-index c.layer-item.result
    c.loop-layer.names.items c.push.new.self.items c.as_slice.result c.loop-layer-test.true c.layer-item.is
    c.loop-layer.invariant c.as_slice.ensures c.in_ok-push.ensures.items

pub returns : goal.returns
returns c =
    named_all (λ (l : BoardLayer). l.name) c.args.layers.now c.loop-layer.layer-index c.loop-layer.names.items
    c.of.result (omega (arith, c.loop-layer-test.false)) c.loop-layer.invariant c.of.ensures
