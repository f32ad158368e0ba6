use Rattle.cut_certificate.specs.inner.Marks.{fill_of, left_in, IsFlood}
use Rattle.cut_certificate.proofs.sound.SoundMoves.mark_within.Given as goal

abbrev pub invariant-flood : goal.invariant-flood
invariant-flood g l = IsFlood (g.M.Moves.graph l.self) l.starts (fill_of l.front)

abbrev pub decreases-flood : goal.decreases-flood
decreases-flood g l = left_in (fill_of l.front)
