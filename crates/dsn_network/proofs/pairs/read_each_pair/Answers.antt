use Rattle.std.proofs.Common.{◌∙◌, [], ◌∷◌}
use Rattle.dsn_shapes.specs.Names.{names_at}
use Rattle.dsn_shapes.specs.Rules.{rule_notes}
use Rattle.dsn_shapes.proofs.Looped.{all_more, noted_more}
use Rattle.dsn_network.specs.Pairs.{pair_refusals, pairs_of}
use Rattle.dsn_network.specs.Words.{rules_in}
use Rattle.dsn_network.proofs.Noting.{counted_more}
use Rattle.dsn_network.proofs.pairs.read_each_pair.Goals as goal

pub loop-tree-preserved : goal.loop-tree-preserved
loop-tree-preserved c =
    let t = c.tree-item.result in
    let nm = c.args.scale.nm in
    let names = names_at 1 c.args.classes.now.lists.now in (
      noted_more (pair_refusals nm names) c.args.trees.now c.loop-tree.tree-index t c.args.first.now
          c.loop-tree.first c.read_pair.new.first c.loop-tree-test.true c.tree-item.is c.loop-tree.invariant.0
          c.in_ok-passed.ensures.noted,
      c.in_ok-passed.ensures.pairs
          ∙ all_more (pairs_of nm names) c.args.trees.now c.loop-tree.tree-index t c.loop-tree.pairs
          c.loop-tree-test.true c.tree-item.is c.loop-tree.invariant.1,
      counted_more (λ t. rule_notes (rules_in (t ∷ []))) c.args.trees.now c.loop-tree.tree-index t c.loop-tree.notes
          c.in_ok-passed.passed c.saturating_add-notes.result c.loop-tree-test.true c.tree-item.is
          c.loop-tree.invariant.2 c.in_ok-passed.ensures.notes c.saturating_add-notes.ensures,
    )
