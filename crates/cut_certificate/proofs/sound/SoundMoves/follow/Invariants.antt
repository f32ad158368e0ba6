use Rattle.cut_certificate.specs.inner.Marks.{fill_of, Gains, IsLedTo}
use Rattle.cut_certificate.proofs.sound.SoundMoves.follow.Given as goal

abbrev pub invariant-loop-i : goal.invariant-loop-i
invariant-loop-i g l = Gains (IsLedTo (g.M.Moves.graph l.self) l.node 0 l.i) (fill_of l.fn.front) (fill_of l.front)
