use Rattle.std.proofs.Common.{◌≡◌, take}
use Rattle.board_picture.specs.Rings.{first_layer}
use Rattle.board_picture.proofs.rings.first_layer.Given as goal

abbrev pub invariant-loop-c : goal.invariant-loop-c
invariant-loop-c l = l.layer ≡ first_layer (take l.c-index l.pieces)
