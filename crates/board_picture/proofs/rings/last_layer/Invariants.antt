use Rattle.std.proofs.Common.{◌≡◌, take}
use Rattle.board_picture.specs.Rings.{last_layer}
use Rattle.board_picture.proofs.rings.last_layer.Given as goal

abbrev pub invariant-loop-c : goal.invariant-loop-c
invariant-loop-c l = l.layer ≡ last_layer (take l.c-index l.pieces)
