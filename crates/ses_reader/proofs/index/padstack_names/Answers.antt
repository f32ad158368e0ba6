use Rattle.std.proofs.Common.{ap, arith}
use Rattle.pcb_model.specs.declared.design.Padstack.{Padstack}
use Rattle.dsn_shapes.specs.Lists.{heads_of}
use Rattle.ses_reader.proofs.Naming.{named_all, named_more}
use Rattle.ses_reader.proofs.index.padstack_names.Goals as goal

pub loop-padstack-init : goal.loop-padstack-init
loop-padstack-init c = ap heads_of c.new-names.ensures.items

pub loop-padstack-preserved : goal.loop-padstack-preserved
loop-padstack-preserved c =
    named_more (λ (s : Padstack). s.name) c.args.padstacks.now c.loop-padstack.padstack-index c.padstack-item.result
    c.loop-padstack.names.items c.push.new.self.items c.as_slice.result c.loop-padstack-test.true c.padstack-item.is
    c.loop-padstack.invariant c.as_slice.ensures c.in_ok-push.ensures.items

pub returns : goal.returns
returns c =
    named_all (λ (s : Padstack). s.name) c.args.padstacks.now c.loop-padstack.padstack-index c.loop-padstack.names.items
    c.of.result (omega (arith, c.loop-padstack-test.false)) c.loop-padstack.invariant c.of.ensures
