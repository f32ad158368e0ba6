use Rattle.std.proofs.Common.{ap, arith}
use Rattle.pcb_model.specs.declared.design.Net.{Net}
use Rattle.dsn_shapes.specs.Lists.{heads_of}
use Rattle.ses_reader.proofs.Naming.{named_all, named_more}
use Rattle.ses_reader.proofs.index.net_names.Goals as goal

pub loop-net-init : goal.loop-net-init
loop-net-init c = ap heads_of c.new-names.ensures.items

pub loop-net-preserved : goal.loop-net-preserved
loop-net-preserved c =
    named_more (λ (n : Net). n.name) c.args.nets.now c.loop-net.net-index c.net-item.result
    c.loop-net.names.items c.push.new.self.items c.as_slice.result c.loop-net-test.true c.net-item.is
    c.loop-net.invariant c.as_slice.ensures c.in_ok-push.ensures.items

pub returns : goal.returns
returns c =
    named_all (λ (n : Net). n.name) c.args.nets.now c.loop-net.net-index c.loop-net.names.items
    c.of.result (omega (arith, c.loop-net-test.false)) c.loop-net.invariant c.of.ensures
