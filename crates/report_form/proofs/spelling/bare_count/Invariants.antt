use Rattle.std.proofs.Common.{◌≡◌, true, take}
use Rattle.std.specs.List.{list_all}
use Rattle.ses_writer.specs.Words.{is_bare_byte}
use Rattle.report_form.proofs.spelling.bare_count.Given as goal

abbrev pub invariant-loop-i : goal.invariant-loop-i
invariant-loop-i l = list_all is_bare_byte (take l.i l.text) ≡ true
