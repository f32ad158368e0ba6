use Rattle.std.proofs.Common.{◌++◌, drop, []}
use Rattle.ses_writer.proofs.Puts.{Leads}
use Rattle.board_picture.specs.Picture.{names_from}
use Rattle.board_picture.proofs.names.put_name_texts.Given as goal

-- what is put, and the names that are left
abbrev pub invariant-loop-c : goal.invariant-loop-c
invariant-loop-c l =
    Leads l.out.items (names_from l.s l.shown.items (drop l.c-index l.components))
    (l.fn.out.items ++ names_from l.s [] l.components)
