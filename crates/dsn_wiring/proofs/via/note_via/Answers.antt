use Rattle.std.proofs.Common.{arith, rules}
use Rattle.std.proofs.lemmas.Grind.{common_steps}
use Rattle.dsn_wiring.specs.Vias.{via_metal, via_place, via_place_refusals, via_refusals}
use Rattle.dsn_wiring.proofs.via.note_via.Goals as goal

pub returns-clause-noted : goal.returns-clause-noted
unfolding via_refusals via_place_refusals via_place
returns-clause-noted c = grind (arith, common_steps)

pub returns-clause-value : goal.returns-clause-value
unfolding via_metal via_place
returns-clause-value c = search rules
