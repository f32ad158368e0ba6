use Rattle.std.proofs.Common.{◌∙◌, refl}
use Rattle.dsn_shapes.specs.Numbers.{extent_at, extent_refusal}
use Rattle.dsn_shapes.specs.Rules.{width_refusals, zero_width}
use Rattle.dsn_shapes.proofs.Looped.{made_more, noted_more, then_noted}
use Rattle.dsn_shapes.proofs.rules.read_widths.Goals as goal

pub loop-tree-init : goal.loop-tree-init
loop-tree-init c = (refl, c.new-widths.ensures)

pub loop-tree-preserved : goal.loop-tree-preserved
loop-tree-preserved c =
    let t = c.tree-item.result in (
      noted_more (width_refusals c.args.s.nm) c.args.trees.now c.loop-tree.tree-index t c.args.first.now
          c.loop-tree.first c.refuse_zero_width.new.first c.loop-tree-test.true c.tree-item.is c.loop-tree.invariant.0
          (then_noted c.loop-tree.first c.extent_at-width.new.first c.refuse_zero_width.new.first
          (extent_refusal c.args.s.nm t.now 1) (zero_width c.args.s.nm t.now) c.extent_at-width.ensures.noted
          c.refuse_zero_width.ensures),
      c.in_ok-push.ensures.ok
          ∙ made_more (λ t. extent_at c.args.s.nm t 1) c.args.trees.now c.loop-tree.tree-index t c.loop-tree.widths
          c.extent_at-width.result c.loop-tree-test.true c.tree-item.is c.loop-tree.invariant.1
          c.extent_at-width.ensures.value,
    )
