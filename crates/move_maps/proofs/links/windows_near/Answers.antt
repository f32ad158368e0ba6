use Rattle.move_maps.proofs.Linking.{strung_together, alone_together}
use Rattle.move_maps.proofs.links.windows_near.Goals as goal

pub returns-then-is_strung : goal.returns-then-is_strung
returns-then-is_strung c =
    strung_together c.args.group.now.d c.args.group.now.lat c.args.group.now.first c.args.item.now
    c.link_windows.result.items
    (c.is_strung.ensures c.if-is_strung.true) c.link_windows.ensures

pub returns : goal.returns
returns c =
    alone_together c.args.group.now.d c.args.group.now.lat c.args.group.now.first c.args.item.now c.args.whole
    c.new-windows.result.items
    c.push.new.self.items c.push.ensures.items c.requires.whole
