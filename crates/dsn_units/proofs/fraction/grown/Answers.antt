use Rattle.std.proofs.Common.{arith, inl, inr}
use Rattle.dsn_units.proofs.Powers.{grown_far}
use Rattle.dsn_units.proofs.fraction.grown.Goals as goal
use Rattle.dsn_units.proofs.fraction.grown.Goals.{then-number-gt-FAR-via-then-number-gt-FAR}
use Rattle.dsn_units.proofs.fraction.grown.Goals.{then-number-gt-FAR-via-else-number-gt-FAR+then-times-gt14}

pub returns-then-number-gt-FAR : goal.returns-then-number-gt-FAR
returns-then-number-gt-FAR c = elim c.then-number-gt-FAR.branch [
  | then-number-gt-FAR-via-then-number-gt-FAR w ↦
      grown_far c.args.number c.args.times (omega arith) (inl w.if-number-gt-FAR.true)
  | then-number-gt-FAR-via-else-number-gt-FAR+then-times-gt14 w ↦
      grown_far c.args.number c.args.times (omega arith) (inr w.if-times-gt14.true)
]
