use Rattle.std.proofs.Common.{◌++◌, drop, flat_map}
use Rattle.ses_writer.proofs.Puts.{Leads}
use Rattle.board_picture.specs.Picture.{open_shape}
use Rattle.board_picture.proofs.edge.put_lines.Given as goal

abbrev pub invariant-loop-line : goal.invariant-loop-line
invariant-loop-line l =
    Leads l.out.items (flat_map open_shape (drop l.line-index l.lines)) (l.fn.out.items ++ flat_map open_shape l.lines)
