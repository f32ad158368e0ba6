use Rattle.std.proofs.Common.{take}
use Rattle.std.specs.Prelude.{Contains}
use Rattle.cut_certificate.specs.inner.Marks.{fill_of, Gains}
use Rattle.cut_certificate.proofs.spread.seed.Given as goal

abbrev pub invariant-loop-s : goal.invariant-loop-s
invariant-loop-s l = Gains (Contains (take l.s-index l.starts)) (fill_of l.fn.front) (fill_of l.front)
