use Rattle.std.proofs.Common.{◌≡◌, ◌++◌, ◌∷◌, [], List, ap, sym, take, ◌∙◌}
use Rattle.std.proofs.lemmas.List.{take_all, take_more}
use Rattle.pcb_model.specs.declared.item.Item.{Item}
use Rattle.pcb_board.proofs.copy.copy_items.Goals as goal

pub loop-item-preserved : goal.loop-item-preserved
loop-item-preserved c =
    let front = take c.loop-item.item-index c.args.items.now in
    let pushed : c.push.new.self.items ≡ c.loop-item.copies.items ++ c.in_ok-copy_item.field-0 ∷ [] =
    c.in_ok-push.ensures.items in
    pushed
    ∙ ap (λ (xs : List Item). xs ++ c.in_ok-copy_item.field-0 ∷ []) c.loop-item.invariant
    ∙ ap (λ (a : Item). front ++ a ∷ []) (c.in_ok-copy_item.ensures ∙ c.item-item.is)
    ∙ sym (take_more c.args.items.now c.loop-item.item-index c.item-item.result c.loop-item-test.true)

pub returns : goal.returns
returns c = c.loop-item.invariant ∙ take_all c.loop-item.item-index c.args.items.now c.loop-item-test.false
