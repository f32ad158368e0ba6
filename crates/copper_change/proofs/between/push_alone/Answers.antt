use Rattle.std.proofs.Common.{◌∙◌, ◌++◌, ◌∷◌, [], ap}
use Rattle.pcb_model.specs.declared.item.Item.{Item}
use Rattle.copper_change.proofs.Parting.{has_no_id, one_alone}
use Rattle.copper_change.proofs.between.push_alone.Goals as goal

pub returns-in_ok-push-in-None : goal.returns-in_ok-push-in-None
returns-in_ok-push-in-None g c =
    let other = g.B.Copper.items c.args.other.now in
    let item = c.args.item.now in
    c.in_ok-push-in-None.ensures.ok
    ∙ (ap (λ (a : Item). c.args.lone.now ++ a ∷ []) c.in_ok-copy_item-in-None.ensures
    ∙ one_alone c.args.lone.now other item (has_no_id other item.id c.in-None.ensures))
