use Rattle.std.proofs.Common.{◌≡◌, ◌<◌, ◌^◌, ◌+◌, take}
use Rattle.dsn_units.specs.Spelling.{number_on}
use Rattle.dsn_units.proofs.decimal.number_on.Given as goal

abbrev pub invariant-loop-b : goal.invariant-loop-b
invariant-loop-b l = (l.number ≡ number_on l.start (take l.b-index l.digits)) × (l.number < 10 ^ (l.before + l.b-index))
