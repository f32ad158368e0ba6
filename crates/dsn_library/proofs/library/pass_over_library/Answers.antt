use Rattle.std.proofs.Common.{arith, rules}
use Rattle.std.proofs.lemmas.Grind.{common_steps}
use Rattle.dsn_library.specs.Whole.{forms_passed, library_left_out, library_notes, parts_left_out, parts_passed}
use Rattle.dsn_library.specs.Whole.{sections_left_out, sections_passed}
use Rattle.dsn_library.proofs.library.pass_over_library.Goals as goal

pub returns-clause-noted : goal.returns-clause-noted
unfolding library_left_out sections_left_out parts_left_out
returns-clause-noted c = grind (arith, common_steps)

pub returns-clause-value : goal.returns-clause-value
unfolding library_notes sections_passed parts_passed forms_passed
returns-clause-value c = search rules
