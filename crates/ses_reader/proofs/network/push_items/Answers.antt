use Rattle.std.proofs.Common.{◌≡◌, ◌∙◌, List, [], ◌∷◌, ◌++◌, ap, append_assoc, map, refl, take}
use Rattle.dsn_shapes.specs.Lists.{trees_of}
use Rattle.dsn_shapes.proofs.Looped.{made_more, noted_more}
use Rattle.ses_reader.specs.declared.item.SesItem.{SesItem}
use Rattle.ses_reader.specs.Copper.{metal_refusals}
use Rattle.ses_reader.specs.Session.{item_of}
use Rattle.ses_reader.proofs.network.push_items.Goals as goal

pub loop-tree-preserved : goal.loop-tree-preserved
loop-tree-preserved c =
    let F = item_of c.args.index.now c.args.m c.args.net in
    let before = map F (trees_of (take c.loop-tree.tree-index c.args.copper.now)) in
    let at = c.at_of.ensures in
    let copper = c.in_ok-metal.ensures.value in
    let item : SesItem = record { at = c.at_of.result; net = c.args.net; metal = c.in_ok-metal.metal } in
    let is : item ≡ F c.tree-item.result.now = cc in
    let last = item ∷ [] in (
      noted_more (metal_refusals c.args.index.now c.args.m) c.args.copper.now c.loop-tree.tree-index
          c.tree-item.result c.args.first.now c.loop-tree.first c.note_metal.new.first c.loop-tree-test.true
          c.tree-item.is c.loop-tree.invariant.0 c.in_ok-metal.ensures.noted,
      c.in_ok-push.ensures.ok
          ∙ ap (λ (xs : List SesItem). xs ++ last) c.loop-tree.invariant.1
          ∙ append_assoc c.args.found.now before last
          ∙ ap (λ (xs : List SesItem). c.args.found.now ++ xs)
          (made_more F c.args.copper.now c.loop-tree.tree-index c.tree-item.result before item
          c.loop-tree-test.true c.tree-item.is refl is),
    )
