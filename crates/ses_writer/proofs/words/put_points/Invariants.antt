use Rattle.std.proofs.Common.{◌++◌, drop, flat_map}
use Rattle.ses_writer.specs.Words.{point_words}
use Rattle.ses_writer.proofs.Puts.{Leads}
use Rattle.ses_writer.proofs.words.put_points.Given as goal

abbrev pub invariant-loop-p : goal.invariant-loop-p
invariant-loop-p l =
    Leads l.out.items (flat_map (point_words l.nm) (drop l.p-index l.points))
    (l.fn.out.items ++ flat_map (point_words l.nm) l.points)
