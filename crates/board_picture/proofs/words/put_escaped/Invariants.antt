use Rattle.std.proofs.Common.{◌++◌, drop}
use Rattle.ses_writer.proofs.Puts.{Leads}
use Rattle.board_picture.specs.Words.{escaped, escaped_from}
use Rattle.board_picture.proofs.words.put_escaped.Given as goal

abbrev pub invariant-loop-at : goal.invariant-loop-at
invariant-loop-at l =
    Leads l.out.items (escaped_from l.skip (drop l.at l.name)) (l.fn.out.items ++ escaped l.name)
