use Rattle.std.proofs.Common.{arith, rules}
use Rattle.std.proofs.lemmas.Grind.{common_steps}
use Rattle.dsn_placement.specs.Placing.{lists_left_out, lists_passed}
use Rattle.dsn_placement.proofs.placing.note_sections.Goals as goal

pub returns-clause-noted : goal.returns-clause-noted
unfolding lists_left_out
returns-clause-noted c = grind (arith, common_steps)

pub returns-clause-value : goal.returns-clause-value
unfolding lists_passed
returns-clause-value c = search rules
