use Rattle.cut_certificate.specs.inner.Marks.{fill_of}
use Rattle.cut_certificate.proofs.Gaining.{seeds_more}
use Rattle.cut_certificate.proofs.spread.seed.Goals as goal

pub loop-s-preserved : goal.loop-s-preserved
loop-s-preserved c =
    seeds_more c.args.starts.now c.loop-s.s-index (fill_of c.args.front.now) (fill_of c.loop-s.front)
    (fill_of c.mark.new.self) c.loop-s-test.true c.loop-s.invariant c.in_ok-mark.ensures
