use Rattle.std.proofs.Common.{◌∙◌}
use Rattle.dsn_shapes.proofs.Looped.{mapped_more}
use Rattle.dsn_design.specs.Counts.{counted_number}
use Rattle.dsn_design.specs.Nets.{net_of}
use Rattle.dsn_design.proofs.nets.nets_of.Goals as goal

pub loop-net-preserved : goal.loop-net-preserved
loop-net-preserved c =
    c.in_ok-push.ensures.ok
    ∙ mapped_more
    (net_of c.args.lists.now.stacks.now (counted_number c.args.lists.now.firsts.now) c.args.lists.now.vias.now
    c.args.lists.now.classes.now) c.args.nets.now c.loop-net.net-index c.net-item.result c.loop-net.all
    c.in_ok-net_of.field-0 c.loop-net-test.true c.net-item.is c.loop-net.invariant
    (c.in_ok-net_of.ensures {u = tt})
