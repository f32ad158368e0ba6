use Rattle.std.proofs.Common.{◌∙◌, ap, [], ◌∷◌, ◌++◌}
use Rattle.std.specs.Prelude.{if◌then◌else◌}
use Rattle.dsn_shapes.specs.Numbers.{extent_refusal}
use Rattle.dsn_shapes.specs.Rules.{is_plain, pairing_of, plain_at, typed_at, typed_by}
use Rattle.dsn_shapes.proofs.Looped.{all_more, noted_more}
use Rattle.dsn_shapes.proofs.rules.read_clearances.Goals as goal

pub loop-tree-preserved : goal.loop-tree-preserved
loop-tree-preserved c =
    let t = c.tree-item.result in (
      noted_more (λ t. extent_refusal c.args.s.nm t 1) c.args.trees.now c.loop-tree.tree-index t c.args.first.now
          c.loop-tree.first c.extent_at-value.new.first c.loop-tree-test.true c.tree-item.is c.loop-tree.invariant.0
          c.extent_at-value.ensures.noted,
      c.in_ok-add_clearance.ensures.plain
          ∙ ap (λ n. c.loop-tree.clearances.plain ++ (if is_plain (pairing_of t.now) then n ∷ [] else []))
          c.extent_at-value.ensures.value
          ∙ all_more (plain_at c.args.s.nm) c.args.trees.now c.loop-tree.tree-index t c.loop-tree.clearances.plain
          c.loop-tree-test.true c.tree-item.is c.loop-tree.invariant.1,
      c.in_ok-add_clearance.ensures.typed
          ∙ ap (λ n. c.loop-tree.clearances.typed ++ typed_by n (pairing_of t.now)) c.extent_at-value.ensures.value
          ∙ all_more (typed_at c.args.s.nm) c.args.trees.now c.loop-tree.tree-index t c.loop-tree.clearances.typed
          c.loop-tree-test.true c.tree-item.is c.loop-tree.invariant.2,
    )
