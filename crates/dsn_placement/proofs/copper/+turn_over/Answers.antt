use Rattle.std.proofs.Common.{arith}
use Rattle.dsn_placement.proofs.Powers.{twice_below}
use Rattle.dsn_placement.proofs.copper.+turn_over.Goals as goal

pub returns-then-layers-eq0-clause-within : goal.returns-then-layers-eq0-clause-within
returns-then-layers-eq0-clause-within t c = omega (arith, twice_below c.args.count (omega arith))

pub returns-else-layers-eq0-clause-within : goal.returns-else-layers-eq0-clause-within
returns-else-layers-eq0-clause-within t c = omega (arith, twice_below c.args.count (omega arith))
