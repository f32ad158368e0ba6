use Rattle.cut_certificate.specs.inner.Marks.{fill_of}
use Rattle.cut_certificate.proofs.Flooding.{less_left, node_in_range, flood_goes_on}
use Rattle.cut_certificate.proofs.sound.SoundMoves.mark_within.Goals as goal

pub follow-requires-clause-node : goal.follow-requires-clause-node
follow-requires-clause-node g c =
    node_in_range (g.M.Moves.graph c.args.self.now) c.args.starts.now (fill_of c.flood.front) c.pop.new.self.items
    c.in-Some.node c.flood.invariant c.in-Some.ensures.items

pub flood-smaller : goal.flood-smaller
flood-smaller g c =
    less_left (fill_of c.flood.front) (fill_of c.follow.new.front) c.pop.new.self.items c.in-Some.node
    c.in-Some.ensures.items c.in_ok-follow.ensures.left

pub flood-preserved : goal.flood-preserved
flood-preserved g c =
    flood_goes_on (g.M.Moves.graph c.args.self.now) c.args.starts.now (fill_of c.flood.front) c.pop.new.self.items
    c.in-Some.node c.flood.invariant c.in-Some.ensures.items (fill_of c.follow.new.front) c.in_ok-follow.ensures
