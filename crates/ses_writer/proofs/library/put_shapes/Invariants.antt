use Rattle.std.proofs.Common.{◌++◌, drop, flat_map}
use Rattle.ses_writer.specs.Session.{shape_line}
use Rattle.ses_writer.proofs.Puts.{Leads}
use Rattle.ses_writer.proofs.library.put_shapes.Given as goal

abbrev pub invariant-loop-c : goal.invariant-loop-c
invariant-loop-c l =
    Leads l.out.items (flat_map (shape_line l.d l.nm) (drop l.c-index l.c-items))
    (l.fn.out.items ++ flat_map (shape_line l.d l.nm) l.c-items)
