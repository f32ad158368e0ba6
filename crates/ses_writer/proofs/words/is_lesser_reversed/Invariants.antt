use Rattle.std.proofs.Common.{◌≡◌, drop, reverse}
use Rattle.ses_writer.specs.Words.{is_lesser}
use Rattle.ses_writer.proofs.words.is_lesser_reversed.Given as goal

abbrev pub invariant-loop-i : goal.invariant-loop-i
invariant-loop-i l = is_lesser (drop l.i (reverse l.points)) (drop l.i l.points) ≡ is_lesser (reverse l.points) l.points
