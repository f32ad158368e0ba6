use Rattle.move_maps.proofs.Windowed.{joined_widens}
use Rattle.move_maps.proofs.links.add_window.Goals as goal

pub returns-in-Some : goal.returns-in-Some
returns-in-Some c =
    joined_widens c.args.windows.now.items c.pop.new.self.items c.push-in-Some.new.self.items c.in-Some.last
    c.args.window
    c.joined.result c.in-Some.ensures.items c.joined.ensures.a c.joined.ensures.b c.push-in-Some.ensures.items
