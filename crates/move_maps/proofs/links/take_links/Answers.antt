use Rattle.std.proofs.Common.{◌-◌, pos, length, take, drop}
use Rattle.move_maps.proofs.Linking.{taking_on, taking_last, after_first}
use Rattle.move_maps.proofs.links.take_links.Goals as goal

pub loop-to-preserved : goal.loop-to-preserved
loop-to-preserved c =
    let points = c.args.points.now in
    taking_on c.args.group.now.d c.args.group.now.lat c.args.group.now.first c.args.piece.now points (record {
      x = pos
          0;
      y = pos 0;
    })
    c.args.windows.now.items (take (length points - 1) (drop 1 points)) c.loop-to.to-index c.loop-to.from
    c.link_window-window.result c.loop-to.windows.items c.add_window.new.windows.items (after_first points)
    c.loop-to-test.true c.requires.within c.add_window.ensures c.link_window-window.ensures c.loop-to.invariant

pub returns : goal.returns
returns c =
    let points = c.args.points.now in
    taking_last c.args.group.now.d c.args.group.now.lat c.args.group.now.first c.args.piece.now points (record {
      x =
          pos 0;
      y = pos 0;
    })
    c.args.windows.now.items (take (length points - 1) (drop 1 points)) c.loop-to.to-index c.loop-to.from
    c.loop-to.windows.items (after_first points) c.loop-to-test.false c.loop-to.invariant
