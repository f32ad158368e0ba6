use Rattle.std.proofs.Common.{◌∙◌, [], ◌∷◌}
use Rattle.dsn_shapes.specs.Rules.{rule_notes}
use Rattle.dsn_shapes.proofs.Looped.{made_more, noted_more}
use Rattle.dsn_network.specs.Nets.{net_of, net_refusals}
use Rattle.dsn_network.specs.Words.{rules_in}
use Rattle.dsn_network.proofs.Noting.{counted_more}
use Rattle.dsn_network.proofs.net.read_each_net.Goals as goal

pub loop-tree-preserved : goal.loop-tree-preserved
loop-tree-preserved c =
    let t = c.tree-item.result in
    let lib = c.args.pins.now.lib.now in
    let placing = c.args.pins.now.placing.now in
    let classes = c.args.classes.now.lists.now in (
      noted_more (net_refusals c.args.scale.nm lib placing) c.args.trees.now c.loop-tree.tree-index t c.args.first.now
          c.loop-tree.first c.read_net.new.first c.loop-tree-test.true c.tree-item.is c.loop-tree.invariant.0
          c.in_ok-read.ensures.noted,
      c.in_ok-push.ensures.ok
          ∙ made_more (net_of c.args.scale.nm lib placing classes) c.args.trees.now c.loop-tree.tree-index t
          c.loop-tree.nets c.in_ok-read.read.net c.loop-tree-test.true c.tree-item.is c.loop-tree.invariant.1
          c.in_ok-read.ensures.net,
      counted_more (λ t. rule_notes (rules_in (t ∷ []))) c.args.trees.now c.loop-tree.tree-index t c.loop-tree.notes
          c.in_ok-read.read.notes c.saturating_add-notes.result c.loop-tree-test.true c.tree-item.is
          c.loop-tree.invariant.2 c.in_ok-read.ensures.notes c.saturating_add-notes.ensures,
    )
