use Rattle.std.proofs.Common.{◌<◌, ◌^◌, ◌++◌, ◌∷◌, [], List, ap, sym, ◌∙◌, arith}
use Rattle.pcb_model.specs.declared.item.Item.{Item}
use Rattle.pcb_tiles.proofs.Filling.{all_more, one_more}
use Rattle.pcb_tiles.proofs.fill.held_copies.Goals as goal

pub loop-item-preserved : goal.loop-item-preserved
loop-item-preserved c =
    let items = c.args.items.now in
    let i = c.loop-item.item-index in
    let a = c.item-item.result in
    let F : Item → List Item = λ x. c.loop-item.held ++ x ∷ [] in
    let G : List Item → List Item = λ xs. xs ++ a ∷ [] in
    let P : Item → Type 0 = λ b. b.id < 2 ^ 64 in
    let l : a.id < 2 ^ 64 = omega arith in
    record {
      is = c.in_ok-push.ensures.ok ∙ (ap F (c.in_ok-new.ensures.ok ∙ c.in_ok-copy_item.ensures)
          ∙ (ap G c.loop-item.invariant.is ∙ sym (one_more items i a c.loop-item-test.true c.item-item.is)));
      ids = all_more P items i a c.loop-item-test.true c.item-item.is c.loop-item.invariant.ids l;
    }
