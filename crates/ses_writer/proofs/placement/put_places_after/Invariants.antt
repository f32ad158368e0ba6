use Rattle.std.proofs.Common.{◌++◌, drop}
use Rattle.ses_writer.specs.Session.{places_after}
use Rattle.ses_writer.proofs.Puts.{Leads}
use Rattle.ses_writer.proofs.placement.put_places_after.Given as goal

abbrev pub invariant-loop-c : goal.invariant-loop-c
invariant-loop-c l =
    Leads l.out.items (places_after l.nm l.before (drop l.c-index l.others))
    (l.fn.out.items ++ places_after l.nm l.fn.first l.others)
