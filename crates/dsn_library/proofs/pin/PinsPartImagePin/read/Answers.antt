use Rattle.std.proofs.Common.{arith, rules}
use Rattle.std.proofs.lemmas.Grind.{common_steps}
use Rattle.dsn_library.specs.Pins.{pin_of, pin_place, pin_place_refusals, pin_refusals}
use Rattle.dsn_library.proofs.pin.PinsPartImagePin.read.Goals as goal

pub returns-clause-noted : goal.returns-clause-noted
unfolding pin_refusals pin_place_refusals
returns-clause-noted c = grind (arith, common_steps)

pub returns-clause-value : goal.returns-clause-value
unfolding pin_of pin_place
returns-clause-value c = search rules
