use Rattle.std.proofs.Common.{◌∙◌, refl}
use Rattle.dsn_shapes.proofs.Looped.{all_more, noted_more}
use Rattle.ses_reader.specs.Session.{net_items, net_refusals}
use Rattle.ses_reader.proofs.network.read_nets.Goals as goal

pub loop-net-init : goal.loop-net-init
loop-net-init c = (refl, c.new-found.ensures)

pub loop-net-preserved : goal.loop-net-preserved
loop-net-preserved c = (
  noted_more (net_refusals c.args.index.now c.args.m) c.args.nets.now c.loop-net.net-index c.net-item.result
      c.args.first.now c.loop-net.first c.push_net.new.first c.loop-net-test.true c.net-item.is
      c.loop-net.invariant.0 c.in-Ok.ensures.noted,
  c.in-Ok.ensures.value
      ∙ all_more (net_items c.args.index.now c.args.m) c.args.nets.now c.loop-net.net-index c.net-item.result
      c.loop-net.found c.loop-net-test.true c.net-item.is c.loop-net.invariant.1,
)
