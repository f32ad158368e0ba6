use Rattle.std.proofs.Common.{◌++◌, drop, flat_map}
use Rattle.ses_writer.specs.Words.{point_words}
use Rattle.ses_writer.proofs.Puts.{Leads}
use Rattle.ses_writer.proofs.words.put_area.Given as goal

abbrev pub invariant-loop-points : goal.invariant-loop-points
invariant-loop-points l =
    Leads l.out.items (flat_map (flat_map (point_words l.nm)) (drop l.points-index l.points-items))
    (l.fn.out.items ++ flat_map (flat_map (point_words l.nm)) l.points-items)
