use Rattle.std.proofs.Common.{◌∙◌}
use Rattle.dsn_design.specs.Items.{edge_item}
use Rattle.dsn_design.proofs.Loops.{pushed_more}
use Rattle.dsn_design.proofs.items.push_edges.Goals as goal

pub loop-bound-preserved : goal.loop-bound-preserved
loop-bound-preserved c =
    c.in_ok-push.ensures.ok
    ∙ pushed_more (edge_item c.args.n) c.args.bounds.now c.loop-bound.bound-index c.bound-item.result
    c.args.items.now c.loop-bound.items c.in_ok-edge_item.field-0 c.loop-bound-test.true c.bound-item.is
    c.loop-bound.invariant (c.in_ok-edge_item.ensures {u = tt})
