use Rattle.move_maps.proofs.Windowed.{joined_widens}
use Rattle.move_maps.proofs.own.add_window.Goals as goal

pub returns : goal.returns
returns c =
    joined_widens c.args.windows.now.items c.pop.new.self.items c.push.new.self.items c.in-Some.last c.args.window
    c.joined.result c.in-Some.ensures.items c.joined.ensures.a c.joined.ensures.b c.in_ok-push.ensures.items
