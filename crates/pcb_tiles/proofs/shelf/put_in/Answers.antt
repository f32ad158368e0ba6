use Rattle.std.proofs.Common.{ap}
use Rattle.pcb_model.specs.declared.item.Item.{Item}
use Rattle.pcb_tiles.proofs.Changes.{put_is}
use Rattle.pcb_tiles.proofs.shelf.put_in.Goals as goal

pub returns : goal.returns
returns c =
    put_is c.args.items.now c.args.a.now c.in_ok-share.field-0 c.new-kept.result c.add_below.new.kept c.push.new.self
    c.add_above.new.kept c.get.result.now.id c.get-2.result.now.id
    c.new-kept.ensures c.in_ok-add_below.ensures
    (ap (λ (x : Item). x.id) c.get.ensures) c.in_ok-push.ensures.ok c.in_ok-share.ensures
    c.in_ok-add_above.ensures (ap (λ (x : Item). x.id) c.get-2.ensures)
