use Rattle.cut_certificate.specs.inner.Marks.{fill_of}
use Rattle.cut_certificate.proofs.Leading.{follows_more}
use Rattle.cut_certificate.proofs.sound.SoundMoves.follow.Goals as goal

pub loop-i-preserved : goal.loop-i-preserved
loop-i-preserved g c =
    follows_more (g.M.Moves.graph c.args.self.now) c.args.node c.loop-i.i (fill_of c.args.front.now)
    (fill_of c.loop-i.front) (fill_of c.follow_one.new.front) c.loop-i.invariant c.in_ok-follow_one.ensures
