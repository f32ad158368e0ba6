use Rattle.std.proofs.Common.{◌++◌, drop, filter, flat_map}
use Rattle.std.specs.List.{enumerate_from}
use Rattle.ses_writer.specs.Session.{is_printed, library_entry, library_lines}
use Rattle.ses_writer.proofs.Puts.{Leads}
use Rattle.ses_writer.proofs.library.put_library.Given as goal

abbrev pub invariant-loop-i : goal.invariant-loop-i
invariant-loop-i l =
    let copper = filter (is_printed l.omit_fixed) l.items in
    Leads l.out.items (flat_map (library_entry l.d l.nm copper) (enumerate_from l.i (drop l.i l.s-items)))
    (l.fn.out.items ++ library_lines l.d l.nm copper)
