use Rattle.std.proofs.Common.{◌≡◌, drop}
use Rattle.std.specs.List.{list_all}
use Rattle.ses_writer.specs.Words.{is_bare_byte}
use Rattle.ses_writer.proofs.words.need_no_quotes.Given as goal

abbrev pub invariant-loop-b : goal.invariant-loop-b
invariant-loop-b l = list_all is_bare_byte (drop l.b-index l.bytes) ≡ list_all is_bare_byte l.bytes
