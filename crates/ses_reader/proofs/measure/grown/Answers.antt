use Rattle.std.proofs.Common.{arith, inl, inr}
use Rattle.ses_reader.proofs.Fractions.{grown_far}
use Rattle.ses_reader.proofs.measure.grown.Goals as goal
use Rattle.ses_reader.proofs.measure.grown.Goals.{then-number-gt-FAR-via-then-number-gt-FAR}
use Rattle.ses_reader.proofs.measure.grown.Goals.{then-number-gt-FAR-via-else-number-gt-FAR+then-times-gt18}

pub returns-then-number-gt-FAR : goal.returns-then-number-gt-FAR
returns-then-number-gt-FAR c = elim c.then-number-gt-FAR.branch [
  | then-number-gt-FAR-via-then-number-gt-FAR w ↦ grown_far c.args.number c.args.times (omega arith)
      (inl w.if-number-gt-FAR.true)
  | then-number-gt-FAR-via-else-number-gt-FAR+then-times-gt18 w ↦ grown_far c.args.number c.args.times (omega arith)
      (inr w.if-times-gt18.true)
]
