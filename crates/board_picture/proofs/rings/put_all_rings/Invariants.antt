use Rattle.std.proofs.Common.{◌++◌, drop, flat_map}
use Rattle.ses_writer.proofs.Puts.{Leads}
use Rattle.board_picture.specs.Rings.{rings_of}
use Rattle.board_picture.proofs.rings.put_all_rings.Given as goal

abbrev pub invariant-loop-a : goal.invariant-loop-a
invariant-loop-a l =
    Leads l.out.items (flat_map (rings_of l.d) (drop l.a-index l.items))
    (l.fn.out.items ++ flat_map (rings_of l.d) l.items)
