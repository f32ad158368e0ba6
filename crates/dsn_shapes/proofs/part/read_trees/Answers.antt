use Rattle.std.proofs.Common.{◌∙◌, refl}
use Rattle.dsn_shapes.proofs.Looped.{made_more, noted_more}
use Rattle.dsn_shapes.proofs.part.read_trees.Goals as goal

pub loop-tree-init : goal.loop-tree-init
loop-tree-init g c = (refl, c.new-values.ensures)

pub loop-tree-preserved : goal.loop-tree-preserved
loop-tree-preserved g c = (
  noted_more (g.P.Part.refusals c.args.part.now) c.args.trees.now c.loop-tree.tree-index c.tree-item.result
      c.args.first.now c.loop-tree.first c.read.new.first c.loop-tree-test.true c.tree-item.is
      c.loop-tree.invariant.0 c.in_ok-value.ensures.noted,
  c.in_ok-push.ensures.ok
      ∙ made_more (g.P.Part.value c.args.part.now) c.args.trees.now c.loop-tree.tree-index c.tree-item.result
      c.loop-tree.values c.in_ok-value.value c.loop-tree-test.true c.tree-item.is c.loop-tree.invariant.1
      c.in_ok-value.ensures.value,
)
