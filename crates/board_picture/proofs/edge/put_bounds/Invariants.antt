use Rattle.std.proofs.Common.{◌++◌, drop, flat_map}
use Rattle.ses_writer.proofs.Puts.{Leads}
use Rattle.board_picture.specs.Picture.{bound_shape}
use Rattle.board_picture.proofs.edge.put_bounds.Given as goal

abbrev pub invariant-loop-loops : goal.invariant-loop-loops
invariant-loop-loops l =
    Leads l.out.items (flat_map bound_shape (drop l.loops-index l.bounds))
    (l.fn.out.items ++ flat_map bound_shape l.bounds)
