use Rattle.std.proofs.Common.{◌≡◌, drop}
use Rattle.board_picture.specs.Shapes.{leaves_layer}
use Rattle.board_picture.proofs.shapes.leaves_layer.Given as goal

abbrev pub invariant-loop-c : goal.invariant-loop-c
invariant-loop-c l = leaves_layer l.layer (drop l.c-index l.pieces) ≡ leaves_layer l.layer l.pieces
