use Rattle.std.proofs.Common.{◌++◌, drop, flat_map}
use Rattle.std.specs.List.{enumerate_from}
use Rattle.ses_writer.proofs.Puts.{Leads}
use Rattle.board_picture.specs.Legend.{layer_row, layer_rows}
use Rattle.board_picture.proofs.legend.put_layer_rows.Given as goal

abbrev pub invariant-loop-i : goal.invariant-loop-i
invariant-loop-i l =
    Leads l.out.items (flat_map layer_row (enumerate_from l.i (drop l.i l.layer-items)))
    (l.fn.out.items ++ layer_rows l.d)
