use Rattle.std.proofs.Common.{◌++◌, length}
use Rattle.ses_writer.proofs.Puts.{Leads}
use Rattle.board_picture.specs.Picture.{layer_groups}
use Rattle.board_picture.proofs.copper.put_layer_groups.Given as goal

-- the layers below are done
abbrev pub invariant-loop-layer : goal.invariant-loop-layer
invariant-loop-layer l =
    Leads l.out.items (layer_groups l.d l.items l.layer)
    (l.fn.out.items ++ layer_groups l.d l.items (length l.d.layers))

abbrev pub decreases-loop-layer : goal.decreases-loop-layer
decreases-loop-layer l = l.layer
