use Rattle.closing_pass.proofs.Naming.{names_fixed}
use Rattle.closing_pass.proofs.helps.push_named.Goals as goal

pub returns-else-not-item : goal.returns-else-not-item
returns-else-not-item c =
    names_fixed c.args.tiles.now.items c.args.block.now c.args.ids.now.items c.in-Item.id c.in-Some.item.now
    c.in_order.ensures.ascends c.in-Item.is c.in-Some.ensures.0 c.in-Some.ensures.1 c.if-not-item.false
