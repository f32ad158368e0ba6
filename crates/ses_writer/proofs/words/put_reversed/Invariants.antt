use Rattle.std.proofs.Common.{◌++◌, drop, reverse, flat_map}
use Rattle.ses_writer.specs.Words.{point_words}
use Rattle.ses_writer.proofs.Puts.{Leads}
use Rattle.ses_writer.proofs.words.put_reversed.Given as goal

abbrev pub invariant-loop-i : goal.invariant-loop-i
invariant-loop-i l =
    Leads l.out.items (flat_map (point_words l.nm) (drop l.i (reverse l.points)))
    (l.fn.out.items ++ flat_map (point_words l.nm) (reverse l.points))
