use Rattle.std.proofs.Common.{◌++◌, ◌∙◌, ◌∷◌, [], List, ap, sym, take}
use Rattle.std.proofs.lemmas.List.{take_all, take_more}
use Rattle.pcb_model.specs.declared.item.Item.{Item}
use Rattle.route_check.proofs.board.copy_items.Goals as goal

pub loop-a-preserved : goal.loop-a-preserved
loop-a-preserved c =
    let front = take c.loop-a.a-index c.args.items.now in
    c.in_ok-push.ensures.ok
    ∙ ap (λ (xs : List Item). xs ++ c.in_ok-copy_item.field-0 ∷ []) c.loop-a.invariant
    ∙ ap (λ (a : Item). front ++ a ∷ []) (c.in_ok-copy_item.ensures ∙ c.a-item.is)
    ∙ sym (take_more c.args.items.now c.loop-a.a-index c.a-item.result c.loop-a-test.true)

pub returns : goal.returns
returns c = c.loop-a.invariant ∙ take_all c.loop-a.a-index c.args.items.now c.loop-a-test.false
