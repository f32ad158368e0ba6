use Rattle.std.proofs.Common.{arith}
use Rattle.std.proofs.lemmas.Int.{ints}
use Rattle.dsn_units.proofs.Turns.{rounded_fits, rounded_value, rounded_within}
use Rattle.dsn_units.proofs.turn.rounded.Goals as goal

pub overflow_mul-parts : goal.overflow_mul-parts
overflow_mul-parts c = omega (arith, ints)

pub overflow_add-parts : goal.overflow_add-parts
overflow_add-parts c = omega (arith, ints)

pub div_euclid-requires-clause-no_overflow : goal.div_euclid-requires-clause-no_overflow
div_euclid-requires-clause-no_overflow c = λ e f. omega arith

pub overflow_cast-result : goal.overflow_cast-result
overflow_cast-result c = rounded_fits c.args.parts c.div_euclid.result c.requires c.div_euclid.ensures

pub returns-clause-value : goal.returns-clause-value
returns-clause-value c = rounded_value c.args.parts c.div_euclid.result c.requires c.div_euclid.ensures

pub returns-clause-within : goal.returns-clause-within
returns-clause-within c = rounded_within c.args.parts c.div_euclid.result c.requires c.div_euclid.ensures
