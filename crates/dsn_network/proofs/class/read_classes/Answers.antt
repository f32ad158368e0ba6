use Rattle.std.proofs.Common.{◌∙◌, [], ◌∷◌}
use Rattle.dsn_shapes.specs.Rules.{rule_notes}
use Rattle.dsn_shapes.proofs.Looped.{made_more, noted_more}
use Rattle.dsn_network.specs.Classes.{class_refusals, read_class_of}
use Rattle.dsn_network.specs.Words.{rules_in}
use Rattle.dsn_network.proofs.Noting.{counted_more}
use Rattle.dsn_network.proofs.class.read_classes.Goals as goal

pub loop-tree-preserved : goal.loop-tree-preserved
loop-tree-preserved c =
    let t = c.tree-item.result in
    let trees = c.as_slice-trees.result.now in (
      noted_more (class_refusals c.args.scale.nm c.args.stacks.now) trees c.loop-tree.tree-index t
          c.args.first.now c.loop-tree.first c.read_class.new.first c.loop-tree-test.true c.tree-item.is
          c.loop-tree.invariant.0 c.in_ok-read.ensures.noted,
      c.in_ok-push.ensures.ok
          ∙ made_more (read_class_of c.args.scale.nm c.args.stacks.now) trees c.loop-tree.tree-index t
          c.loop-tree.classes c.in_ok-read.read.class c.loop-tree-test.true c.tree-item.is c.loop-tree.invariant.1
          c.in_ok-read.ensures.class,
      counted_more (λ t. rule_notes (rules_in (t ∷ []))) trees c.loop-tree.tree-index t c.loop-tree.notes
          c.in_ok-read.read.notes c.saturating_add-notes.result c.loop-tree-test.true c.tree-item.is
          c.loop-tree.invariant.2 c.in_ok-read.ensures.notes c.saturating_add-notes.ensures,
    )
