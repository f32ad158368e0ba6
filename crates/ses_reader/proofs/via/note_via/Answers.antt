use Rattle.std.proofs.Common.{arith, rules}
use Rattle.std.proofs.lemmas.Grind.{common_steps}
use Rattle.ses_reader.specs.Copper.{via_metal, via_point, via_refusals}
use Rattle.ses_reader.proofs.via.note_via.Goals as goal

pub returns-clause-noted : goal.returns-clause-noted
unfolding via_refusals via_point
returns-clause-noted c = grind (arith, common_steps)

pub returns-clause-value : goal.returns-clause-value
unfolding via_metal via_point
returns-clause-value c = search rules
